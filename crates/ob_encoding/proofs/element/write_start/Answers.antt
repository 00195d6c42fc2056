use Rattle.std.proofs.Common.{ℕ, List, ◌++◌, ap, ◌∙◌}
use Rattle.std.specs.Option.{option_copied}
use Rattle.std.proofs.lemmas.Result.{on_ok_weaker}
use Rattle.ob_encoding.specs.Names.{kind_name}
use Rattle.ob_encoding.proofs.Writing.{start_written}
use Rattle.ob_encoding.proofs.element.write_start.Goals as goal

pub returns-clause-written : goal.returns-clause-written
returns-clause-written c =
    on_ok_weaker c.write_attributes.result (λ e. start_written c.args.out.now.items c.append.new.out.items c.append-2.new.out.items c.write_namespace.new.out.items c.write_attributes.new.out.items (option_copied c.args.ns) c.args.head.now c.in_ok-append.ensures.written (c.in_ok-append-2.ensures.written ∙ ap (λ (t : List ℕ). c.append.new.out.items ++ t) (c.as_bytes.ensures.value ∙ (c.kind_name.ensures ∙ ap kind_name c.kind.ensures))) c.in_ok-write_namespace.ensures.written e) c.write_attributes.ensures.written
