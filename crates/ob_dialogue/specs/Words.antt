-- How it is told why the other side ended a dialogue.
use Rattle.std.specs.Prelude.{ℕ, List, ◌++◌, codes, decimal, None}
use Rattle.ob_console.specs.Screen.{screened}
use Rattle.ob_encoding.specs.Canonical.{canonical_text}
use Rattle.ob_http.specs.declared.fault.FrameFault.{FrameFault}
use Rattle.ob_http.specs.declared.fault.FrameFault.TheVariants as frames
use Rattle.ob_xml.specs.Words.{refusal_words}
use Rattle.ob_dialogue.specs.declared.ending.Peer.{Peer}
use Rattle.ob_dialogue.specs.declared.ending.Peer.TheVariants as peer

abbrev pub frame_word : FrameFault → List ℕ
frame_word frames.Head = codes "Head"
frame_word frames.HeadBig = codes "HeadBig"
frame_word frames.NoLength = codes "NoLength"
frame_word frames.Length = codes "Length"
frame_word frames.BodyBig = codes "BodyBig"
frame_word frames.Memory = codes "Memory"

abbrev pub peer_words : Peer → List ℕ
peer_words (peer.Status n) = codes "status " ++ decimal n
peer_words (peer.Document refused) = codes "document " ++ refusal_words refused
peer_words (peer.Frame fault) = codes "frame " ++ frame_word fault
peer_words peer.Ended = codes "ended"
peer_words (peer.Err o) = codes "err " ++ screened (canonical_text None o)
peer_words peer.Shape = codes "shape"
