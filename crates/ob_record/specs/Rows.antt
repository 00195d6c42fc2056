-- Worked rows: records that are computed, and where one that is cut breaks off.
use Rattle.std.specs.Prelude.{◌≡◌, ℕ, List, [], ◌∷◌, codes, None}
use Rattle.ob_values.specs.declared.verb.Verb.TheVariants.{Get, Post}
use Rattle.ob_record.specs.declared.run.Entry.{Entry}
use Rattle.ob_record.specs.declared.run.Told.TheVariants.{Reply, NoMemory}
use Rattle.ob_record.specs.Broken.{BreaksAt}
use Rattle.ob_record.specs.Runs.{Recorded, run_text}

-- a Get of a point that has the value 7, at the moment of the opening
abbrev pub read_of_seven : Entry
read_of_seven = record {
  moment = 0;
  request = record { verb = Get; target = codes "/obix/n"; body = None };
  reply = Reply (codes "<int href=\"/obix/n\" val=\"7\"/>");
}

-- a watch that there was no memory to make, a second later
abbrev pub unmade_watch : Entry
unmade_watch = record {
  moment = 1000;
  request = record { verb = Post; target = codes "/obix/watchService/make"; body = None };
  reply = NoMemory;
}

abbrev pub run_of : ℕ → List Entry → Recorded
run_of boot entries = record { boot = boot; entries = entries }

pub record WorkedRows : Type 0 where
  pub nothing_asked : run_text (run_of 0 []) ≡ codes "obix-record 1\nboot 0\n"
  pub one_read : run_text (run_of 0 (read_of_seven ∷ [])) ≡ codes "obix-record 1\nboot 0\n0 GET 7 0 29\n/obix/n<int href=\"/obix/n\" val=\"7\"/>\n"
  pub no_memory : run_text (run_of 60 (unmade_watch ∷ [])) ≡ codes "obix-record 1\nboot 60\n1000 POST 23 0 -\n/obix/watchService/make\n"
  -- cut behind the verb: no run has the entry that begins behind the first two lines
  pub cut_in_entry : BreaksAt (codes "obix-record 1\nboot 0\n0 GET") 21
  pub other_first_line : BreaksAt (codes "obix-record 2\nboot 0\n") 0
  pub boot_with_a_zero : BreaksAt (codes "obix-record 1\nboot 00\n") 14
