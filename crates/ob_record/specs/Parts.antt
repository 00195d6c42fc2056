-- The parts of an entry of a record, and their one spelling: a line, and behind it the target, the body, the reply and a line
-- feed. The line is `MS VERB T B R`: the moment in milliseconds, the verb, and how many bytes target, body and reply have.
use Rattle.std.specs.Prelude.{ℕ, ◌<◌, ◌^◌, List, [], ◌∷◌, ◌++◌, length, codes, decimal, option_map, unwrap_or, IfSome, Option, Some, None}
use Rattle.ob_values.specs.declared.verb.Verb.{Verb}
use Rattle.ob_values.specs.declared.verb.Verb.TheVariants.{Get, Put, Post}
use Rattle.ob_record.specs.declared.parts.Slices.{Slices}

-- what is written of an entry: no body is an empty one, and no reply is want of memory
pub record Parts : Type 0 where
  pub moment : ℕ
  pub verb : Verb
  pub target : List ℕ
  pub body : List ℕ
  pub reply : Option (List ℕ)

-- the parts, apart from where they lie in memory
abbrev pub parts_of_slices : Slices → Parts
parts_of_slices s = record { moment = s.moment; verb = s.verb; target = s.target.now; body = s.body.now; reply = option_map (λ r. r.now) s.reply }

abbrev pub verb_word : Verb → List ℕ
verb_word Get = codes "GET "
verb_word Put = codes "PUT "
verb_word Post = codes "POST "

-- a number in decimal, without leading zeros, and the byte that ends it
abbrev pub number_word : ℕ → ℕ → List ℕ
number_word n end = decimal n ++ end ∷ []

-- how many bytes a reply has, or a dash where there is none, and a line feed
abbrev pub size_word : Option ℕ → List ℕ
size_word None = codes "-\n"
size_word (Some size) = number_word size 10

-- the line of an entry
abbrev pub line_text : Parts → List ℕ
line_text p =
    number_word p.moment 32 ++ (verb_word p.verb ++ (number_word (length p.target) 32 ++ (number_word (length p.body) 32 ++ size_word (option_map length p.reply))))

-- the line, the target, the body, the reply and a line feed
abbrev pub parts_text : Parts → List ℕ
parts_text p =
    number_word p.moment 32 ++ (verb_word p.verb ++ (number_word (length p.target) 32 ++ (number_word (length p.body) 32
    ++ (size_word (option_map length p.reply)
    ++ (p.target ++ (p.body ++ (unwrap_or p.reply [] ++ 10 ∷ [])))))))

-- the same without the last line feed
abbrev pub open_text : Parts → List ℕ
open_text p =
    number_word p.moment 32 ++ (verb_word p.verb ++ (number_word (length p.target) 32 ++ (number_word (length p.body) 32
    ++ (size_word (option_map length p.reply)
    ++ (p.target ++ (p.body ++ unwrap_or p.reply []))))))

-- numbers of a record are below 2^63
pub record AreSmall (p : Parts) : Type 0 where
  pub moment : p.moment < 2 ^ 63
  pub target : length p.target < 2 ^ 63
  pub body : length p.body < 2 ^ 63
  pub reply : IfSome p.reply (λ reply. length reply < 2 ^ 63)
