-- The machine behind the desk: the site, and what a crash at any moment may leave of it.
use Rattle.std.specs.Prelude.{◌≡◌, ◌⊎◌, ℕ, ◌+◌, ◌≤◌, Bool, true, false, cond, nat_lt, List, [], ◌∷◌, ◌++◌, codes, length, map, Option, Some, None, refl}
use Rattle.std.specs.Coded.{Coded, code_by, coded×, coded_ℕ, coded_bool, coded_list}
use Rattle.std.specs.declared.snapshot.Snapshot.{Snapshot}
use Rattle.ob_journal.specs.Journal.{IsSettled}
use Rattle.ob_object.specs.declared.kind.Kind.TheVariants as kind
use Rattle.ob_object.specs.Facets.{no_facets}
use Rattle.ob_object.specs.Object.{Object, empty_head}
use Rattle.ob_record.specs.Blocks.{IsBlock, block_text}
use Rattle.ob_record.specs.Legal.{IsLegalRun, after_entries}
use Rattle.ob_record.specs.Runs.{IsRun, parts_of}
use Rattle.ob_record.specs.declared.run.Entry.{Entry}
use Rattle.ob_record_journal.specs.Runs.{run_blocks}
use Rattle.ob_site.specs.Codes.{site_code}
use Rattle.ob_site.specs.declared.site.Site.{Site}
use Rattle.ob_site_rules.specs.declared.request.Request.{Request}
use Rattle.ob_site_rules.specs.Build.{leaf}
use Rattle.ob_site_rules.specs.Sites.{SiteState}
use Rattle.ob_site_laws.specs.SiteLaws.{acts}
use Rattle.ob_site_lasting.specs.SiteLasting.{IsSiteRestartOf}
use Rattle.ob_kept.specs.declared.recorder.Recorder.{Recorder}
use Rattle.ob_kept.specs.Recording.{opening_moment}
use Rattle.ob_kept.specs.Redone.{redone}
use Rattle.ob_kept.specs.Room.{Addition, addition}
use Rattle.ob_kept.specs.Saying.{LeadsTo}

-- A site that is kept: the moment of its record and what the site file opens then, the device's moment at which it was opened,
-- the states that it has been in since, and the one that it is in now. And of the record's file where its closed gate stands, which
-- is its last byte; the first number of a watch that can't have been given, by what it says; and whether it says an entry.
pub record Keeping : Type 0 where
  pub boot : ℕ
  pub opening : SiteState
  pub since : ℕ
  pub past : List SiteState
  pub now : SiteState
  pub end : ℕ
  pub next : ℕ
  pub begun : Bool

-- each is stored as the tuple of its fields
abbrev Fields : Type 0
Fields = ℕ × (SiteState × (ℕ × (List SiteState × (SiteState × (ℕ × (ℕ × Bool))))))

abbrev pub keeping_code : Coded Keeping
keeping_code =
    code_by Fields (coded× coded_ℕ (coded× site_code (coded× coded_ℕ (coded× (coded_list site_code) (coded× site_code (coded× coded_ℕ (coded× coded_ℕ coded_bool)))))))
    (λ k. (k.boot, (k.opening, (k.since, (k.past, (k.now, (k.end, (k.next, k.begun))))))))
    (λ t. record { boot = t.0; opening = t.1.0; since = t.1.1.0; past = t.1.1.1.0; now = t.1.1.1.1.0; end = t.1.1.1.1.1.0; next = t.1.1.1.1.1.1.0; begun = t.1.1.1.1.1.1.1 })
    (λ _. refl)

-- so it is seen in its parts: the site, the recorder of its changes, and snapshots, of the opening, of the device as it was then, and
-- of the site since. moment says the moment of a device.
abbrev pub kept_of : {D : Type 0} → (moment : D → ℕ) → (site : SiteState) → (recorder : Recorder D) → (opening : Snapshot Site) → (opened : Snapshot D)
    → (past : List (Snapshot Site)) → Keeping
kept_of moment site recorder opening opened past = record {
  boot = recorder.boot;
  opening = opening.value;
  since = moment opened.value;
  past = map (λ s. s.value) past;
  now = site;
  end = recorder.journal.end;
  next = recorder.next;
  begun = recorder.begun;
}

-- ---- a step

-- what a request at a moment would add to the file
abbrev pub added : Keeping → Request → ℕ → Option Addition
added k r moment = addition k.now k.next r moment

-- by how many bytes the file grows: the entry stands behind the gate, which is opened, with a closed gate behind it; and the line of
-- the opening before the first one
abbrev pub growth : Keeping → Option Addition → ℕ
growth k None = 0
growth k (Some a) = length (block_text (opening_moment k.boot k.begun) (parts_of a.entry) ++ 0 ∷ [])

-- whether the file would come to have more bytes than a record has
abbrev pub is_too_much : Keeping → Option Addition → Bool
is_too_much k None = false
is_too_much k (Some a) = nat_lt 1_073_741_824 (k.end + 1 + growth k (Some a))

-- A request is refused where it would add an entry for which the file has no room.
abbrev pub is_refused : Keeping → Request → ℕ → Bool
is_refused k r moment = is_too_much k (added k r moment)

-- and that is the reply: an err as that of each limit is, with its words
abbrev pub record_is_full : Object
record_is_full = leaf (record (empty_head kind.Err) { facets = record no_facets { display = Some (codes "limit of 1073741824 bytes of record") } })

-- what an addition makes of the first number that can't have been given, and of whether there is an entry
abbrev pub next_behind : Keeping → Option Addition → ℕ
next_behind k None = k.next
next_behind k (Some a) = a.next

abbrev pub begun_behind : Keeping → Option Addition → Bool
begun_behind k None = k.begun
begun_behind k (Some a) = true

-- the site that is kept, once a step is done that adds this and leaves it in this state
abbrev pub stepped : Keeping → Option Addition → SiteState → Keeping
stepped k a st = record {
  boot = k.boot;
  opening = k.opening;
  since = k.since;
  past = k.past ++ k.now ∷ [];
  now = st;
  end = k.end + growth k a;
  next = next_behind k a;
  begun = begun_behind k a;
}

-- What a request at a moment makes of it, and the reply: those of the site; or the refusal, and nothing is otherwise.
abbrev pub kept_act : Keeping → Request → ℕ → Keeping × Object
kept_act k r moment = cond (is_refused k r moment) (k, record_is_full) (stepped k (added k r moment) (acts k.now r moment).0, (acts k.now r moment).1)

-- ---- what a crash leaves

-- a file leads to a state in which the site may go on from this one
abbrev pub LeavesOf : ℕ → SiteState → List ℕ → SiteState → Type 0
LeavesOf boot opening file st = (led : SiteState) × LeadsTo boot opening file led × IsSiteRestartOf st led

-- or from one of these
abbrev pub LeavesOneOf : ℕ → SiteState → List ℕ → List SiteState → Type 0
LeavesOneOf boot opening file [] = ⊥
LeavesOneOf boot opening file (st ∷ sts) = LeavesOf boot opening file st ⊎ LeavesOneOf boot opening file sts

-- or from this one after one request more, which was never answered
abbrev pub LeavesMore : ℕ → SiteState → List ℕ → SiteState → Type 0
LeavesMore boot opening file st = (r : Request) × (moment : ℕ) × LeavesOf boot opening file (acts st r moment).0

-- Of a device seen, may_leave, moment and left_since say what its file is, and what a crash may leave.
module _ {D : Type 0} (seen : D → List ℕ) (may_leave : D → List ℕ → Type 0) (moment : D → ℕ) (left_since : D → ℕ → List ℕ → Type 0) where
  -- The file is at rest and says entries that lead from the opening to a state in which the site may go on from now. The number
  -- of the next watch is there this one, and there is an entry or none.
  pub record IsAtRestAt (boot : ℕ) (opening now : SiteState) (device : D) (end next : ℕ) (begun : Bool) : Type 0 where
    pub entries : List Entry
    pub valid : IsRun (record { boot = boot; entries = entries })
    pub settled : IsSettled IsBlock seen may_leave (run_blocks boot entries) device end
    pub legal : IsLegalRun redone opening entries
    pub restart : IsSiteRestartOf now (after_entries redone opening entries)
    pub next_is : (after_entries redone opening entries).world.next ≡ next
    pub begun_is : (begun ≡ false) → entries ≡ []
    pub some : (begun ≡ true) → (e : Entry) × (es : List Entry) × (entries ≡ e ∷ es)

  -- What a device tells of the files that a crash since the opening might have left: each leads to where the site may go on from
  -- one of the states that it has been in; or, where a call of the device has failed, from one request more. And of those that one
  -- may leave now, the same of the state that it is in.
  pub record IsRecoverable (k : Keeping) (device : D) (failed : Bool) : Type 0 where
    pub later : k.since ≤ moment device
    pub crash : (c : List ℕ) → left_since device k.since c
        → LeavesOneOf k.boot k.opening c (k.past ++ k.now ∷ []) ⊎ ((failed ≡ true) × LeavesMore k.boot k.opening c k.now)
    pub file : (c : List ℕ) → may_leave device c → LeavesOf k.boot k.opening c k.now ⊎ ((failed ≡ true) × LeavesMore k.boot k.opening c k.now)
    pub rest : failed ≡ false → IsAtRestAt k.boot k.opening k.now device k.end k.next k.begun

  -- What the device is told to have left in the end: the files of a crash since the opening, and those that one may leave now. They
  -- lead to one request more only where a call of the device has failed. Where none has, the closed gate is the last byte.
  pub record IsLeft (k : Keeping) (device : D) (failed : Bool) : Type 0 where
    pub crash : (c : List ℕ) → left_since device k.since c
        → LeavesOneOf k.boot k.opening c (k.past ++ k.now ∷ []) ⊎ ((failed ≡ true) × LeavesMore k.boot k.opening c k.now)
    pub file : (c : List ℕ) → may_leave device c → LeavesOf k.boot k.opening c k.now ⊎ ((failed ≡ true) × LeavesMore k.boot k.opening c k.now)
    pub size : failed ≡ false → length (seen device) ≡ k.end + 1
