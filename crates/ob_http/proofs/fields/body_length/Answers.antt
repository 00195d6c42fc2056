use Rattle.std.proofs.Common.{sym, ◌∙◌, ap, option_copied, rules}
use Rattle.ob_http.proofs.FieldLemmas.{chunked, no_length, no_number, two_numbers, one_number, absent_fits, fits, exceeds}
use Rattle.ob_http.proofs.fields.body_length.Goals as goal

pub returns-then-has_field-clause-value : goal.returns-then-has_field-clause-value
returns-then-has_field-clause-value c =
    sym (chunked c.args.bytes.now c.args.headers.now c.args.absent c.args.limit (sym c.has_field.ensures ∙ c.if-has_field.true))

pub returns-in_default-clause-value : goal.returns-in_default-clause-value
returns-in_default-clause-value c =
    sym (no_length c.args.bytes.now c.args.headers.now c.args.absent c.args.limit (sym c.has_field.ensures ∙ c.if-has_field.false)
    (sym c.first_value.ensures ∙ ap option_copied c.in_default.is) ∙ absent_fits c.args.limit c.args.absent c.requires.fits)

pub returns-in_default-read_length-clause-value : goal.returns-in_default-read_length-clause-value
returns-in_default-read_length-clause-value c =
    sym (no_number c.args.bytes.now c.args.headers.now c.args.absent c.args.limit (sym c.has_field.ensures ∙ c.if-has_field.false)
    c.in-Some.value.now (sym c.in-Some.ensures) (sym c.read_length.ensures.value ∙ c.in_default-read_length.is))

pub returns-then-not-each_writes-clause-value : goal.returns-then-not-each_writes-clause-value
returns-then-not-each_writes-clause-value c =
    sym (two_numbers c.args.bytes.now c.args.headers.now c.args.absent c.args.limit (sym c.has_field.ensures ∙ c.if-has_field.false)
    c.in-Some.value.now c.in-Some-read_length.length (sym c.in-Some.ensures) (sym c.in-Some-read_length.ensures.value) (sym c.each_writes.ensures ∙ c.if-not-each_writes.true))

pub returns-then-length-limit-clause-value : goal.returns-then-length-limit-clause-value
returns-then-length-limit-clause-value c =
    sym (one_number c.args.bytes.now c.args.headers.now c.args.absent c.args.limit (sym c.has_field.ensures ∙ c.if-has_field.false)
    c.in-Some.value.now c.in-Some-read_length.length (sym c.in-Some.ensures) (sym c.in-Some-read_length.ensures.value) (sym c.each_writes.ensures ∙ c.if-not-each_writes.false)
    ∙ exceeds c.args.limit c.in-Some-read_length.length (search rules))

pub returns-clause-value : goal.returns-clause-value
returns-clause-value c =
    sym (one_number c.args.bytes.now c.args.headers.now c.args.absent c.args.limit (sym c.has_field.ensures ∙ c.if-has_field.false)
    c.in-Some.value.now c.in-Some-read_length.length (sym c.in-Some.ensures) (sym c.in-Some-read_length.ensures.value) (sym c.each_writes.ensures ∙ c.if-not-each_writes.false)
    ∙ fits c.args.limit c.in-Some-read_length.length (search rules))
