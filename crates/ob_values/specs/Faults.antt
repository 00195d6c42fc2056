-- White space, and why bytes spell no value: passed on to the crates above.
pub use Rattle.ob_spelling.specs.White.{is_white, trim}
pub use Rattle.ob_spelling.specs.Reads.{Reads, ReadsAs, ReadsWord}
pub use Rattle.ob_spelling.specs.declared.fault.ValueFault.{ValueFault}
pub use Rattle.ob_spelling.specs.declared.fault.ValueFault.TheVariants.{NotBool, NotNumber, NotFinite, Digits, Range, NotTime, NotStatus, NotName}
