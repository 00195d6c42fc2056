-- Parts of the code as the definitions have them.
use Rattle.ob_parts.specs.declared.part.Part as code
use Rattle.ob_parts.specs.Numbered.{Part}

abbrev pub part_of : code.Part → Part
part_of p = record { number = p.number; object = p.object.now }
