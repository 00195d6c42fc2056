-- What the fields of a message's head say of its body and of its connection (RFC 9112, sections 6.3
-- and 9.6; RFC 9110, sections 5.6.1, 7.6.1, 8.3 and 8.6). A field is its name and its value, without
-- the white space around it.
use Rattle.std.specs.Prelude.{ℕ, Bool, ◌&&◌, ◌||◌, ◌==◌, nat_le, nat_lt, nat_eq, List, [], ◌∷◌, length, not, find, codes, Option, Some, None, option_map, Result, Ok, Err, if◌then◌else◌}
use Rattle.std.specs.List.{list_any, list_all, before_first}
use Rattle.std.specs.Option.{option_eq}
use Rattle.std.specs.Char.{is_ascii_digit}
use Rattle.std.specs.Str.{str_eq_ignore_ascii_case}
use Rattle.std.specs.Str.Parse.{digits_value}
use Rattle.httparse.specs.Ascii.{comma, semicolon}
use Rattle.httparse.specs.Grammar.{trim_ows}
use Rattle.ob_http.specs.declared.fault.FrameFault.{FrameFault}
use Rattle.ob_http.specs.declared.fault.FrameFault.TheVariants.{NoLength, Length, BodyBig}
use Rattle.ob_http.specs.declared.media.Media.{Media}
use Rattle.ob_http.specs.declared.media.Media.TheVariants.{Absent, Xml, Other}

abbrev pub Fields : Type 0
Fields = List (List ℕ × List ℕ)

-- the field has this name, in any case
abbrev pub is_named : List ℕ → List ℕ × List ℕ → Bool
is_named name field = str_eq_ignore_ascii_case field.0 name

-- there is a field of this name
abbrev pub has_field : List ℕ → Fields → Bool
has_field name fields = list_any (is_named name) fields

-- the value of the first field of this name
abbrev pub first_value : List ℕ → Fields → Option (List ℕ)
first_value name fields = option_map (λ f. f.1) (find (is_named name) fields)

-- each value of a field of this name passes the test
abbrev pub each_value : List ℕ → (List ℕ → Bool) → Fields → Bool
each_value name test fields = list_all (λ f. not (is_named name f) || test f.1) fields

-- some value of a field of this name passes the test
abbrev pub some_value : List ℕ → (List ℕ → Bool) → Fields → Bool
some_value name test fields = list_any (λ f. is_named name f && test f.1) fields

-- ---- the body's length

-- the number that a value of Content-Length writes: 1 to 18 digits
abbrev pub length_value : List ℕ → Option ℕ
length_value value =
    if nat_lt 0 (length value) && nat_le (length value) 18 && list_all is_ascii_digit value
    then Some (digits_value 10 value) else None

-- the value writes the number n
abbrev pub is_length : ℕ → List ℕ → Bool
is_length n value = option_eq nat_eq (length_value value) (Some n)

-- the number n of the first Content-Length, if each other one writes it too
abbrev pub agreed : Fields → Option ℕ → Result ℕ FrameFault
agreed fields None = Err Length
agreed fields (Some n) =
    if each_value (codes "content-length") (is_length n) fields then Ok n else Err Length

-- the number on which the fields agree, and `absent` where there is no Content-Length
abbrev pub length_from : Result ℕ FrameFault → Fields → Option (List ℕ) → Result ℕ FrameFault
length_from absent fields None = absent
length_from absent fields (Some value) = agreed fields (length_value value)

abbrev pub content_length : Result ℕ FrameFault → Fields → Result ℕ FrameFault
content_length absent fields = length_from absent fields (first_value (codes "content-length") fields)

-- the length, unless it is above the limit
abbrev pub within : ℕ → Result ℕ FrameFault → Result ℕ FrameFault
within limit (Ok n) = if nat_le n limit then Ok n else Err BodyBig
within limit (Err fault) = Err fault

-- how many bytes of body follow a head with these fields
abbrev pub body_length : Result ℕ FrameFault → ℕ → Fields → Result ℕ FrameFault
body_length absent limit fields =
    if has_field (codes "transfer-encoding") fields then Err NoLength
    else within limit (content_length absent fields)

-- ---- the body's media type

-- the media type of a value of Content-Type, without its parameters
abbrev pub media_type : List ℕ → List ℕ
media_type value = trim_ows (before_first (λ b. b == semicolon) value)

-- the media type is one of XML
abbrev pub is_xml : List ℕ → Bool
is_xml value =
    str_eq_ignore_ascii_case (media_type value) (codes "text/xml")
    || str_eq_ignore_ascii_case (media_type value) (codes "application/xml")

-- what a value of Content-Type says, if there is one
abbrev pub media_from : Option (List ℕ) → Media
media_from None = Absent
media_from (Some value) = if is_xml value then Xml else Other

abbrev pub media_of : Fields → Media
media_of fields = media_from (first_value (codes "content-type") fields)

-- ---- the connection

-- the parts of a value between its commas, with b put before the first
abbrev pub begin_with : ℕ → List (List ℕ) → List (List ℕ)
begin_with b [] = (b ∷ []) ∷ []
begin_with b (part ∷ parts) = (b ∷ part) ∷ parts

-- the parts of a value between its commas
abbrev pub list_members : List ℕ → List (List ℕ)
list_members [] = [] ∷ []
list_members (b ∷ value) =
    if b == comma then [] ∷ list_members value else begin_with b (list_members value)

-- the value is a list that has this word, in any case
abbrev pub has_word : List ℕ → List ℕ → Bool
has_word word value =
    list_any (λ member. str_eq_ignore_ascii_case (trim_ows member) word) (list_members value)

-- the sender closes the connection behind this message
abbrev pub asks_close : ℕ → Fields → Bool
asks_close minor fields =
    minor == 0 || some_value (codes "connection") (has_word (codes "close")) fields
