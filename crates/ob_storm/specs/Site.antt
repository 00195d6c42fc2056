-- The site of a storm, as the text of its file. Source: oBIX 1.1, chapters 5 (Lobby), 13 (Points), 14
-- (History) and 15 (Alarming); the rules of alarms are this profile's own.
use Rattle.std.specs.Prelude.{ℕ, zero, suc, ◌+◌, codes, decimal, List, [], ◌++◌}

-- a writable point from 0 to 999, at first 0
abbrev pub point_text : ℕ → List ℕ
point_text k = codes "<int href=\"p" ++ decimal k ++ codes "\" is=\"obix:WritablePoint\" val=\"0\" max=\"999\" min=\"0\" writable=\"true\"/>"

-- so many points from this one on
abbrev pub point_texts : ℕ → ℕ → List ℕ
point_texts k zero = []
point_texts k (suc n) = point_text k ++ point_texts (k + 1) n

-- a lobby with so many points, the history of the first, and the alarms of the second: below 100 or above 899, to be acknowledged
unfoldable pub site_of : ℕ → List ℕ
site_of n =
    codes "<obj href=\"http://h/obix/\" is=\"obix:Lobby\">"
    ++ point_texts 0 n
    ++ codes "<obj name=\"h\" href=\"h\" is=\"obix:History\"><ref name=\"source\" href=\"p0\"/></obj><obj name=\"alarms\" href=\"alarms\" is=\"obix:AlarmSubject\"><list name=\"rules\"><obj><ref name=\"source\" href=\"p1\"/><int name=\"low\" val=\"100\"/><int name=\"high\" val=\"899\"/><bool name=\"needsAck\" val=\"true\"/></obj></list></obj></obj>"

-- a hundred points
abbrev pub site_text : List ℕ
site_text = site_of 100
