use Rattle.ob_markup.proofs.Worked.{prints_sample, reads_bare_object, no_dashes, no_xml_target, stands_for_text, no_references, never_a_doctype, may_be_an_attribute}
use Rattle.ob_markup.proofs.laws.worked_rows.Goals as goal

pub returns-clause-sample : goal.returns-clause-sample
returns-clause-sample c = prints_sample

pub returns-clause-bare : goal.returns-clause-bare
returns-clause-bare c = reads_bare_object

pub returns-clause-dashes : goal.returns-clause-dashes
returns-clause-dashes c = no_dashes

pub returns-clause-target : goal.returns-clause-target
returns-clause-target c = no_xml_target

pub returns-clause-value : goal.returns-clause-value
returns-clause-value c = stands_for_text

pub returns-clause-references : goal.returns-clause-references
returns-clause-references c = no_references

pub returns-clause-doctype : goal.returns-clause-doctype
returns-clause-doctype c = never_a_doctype c.judged_once.ensures

pub returns-clause-attribute : goal.returns-clause-attribute
returns-clause-attribute c = may_be_an_attribute c.judged_once.ensures
