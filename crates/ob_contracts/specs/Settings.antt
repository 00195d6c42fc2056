-- What an object becomes where it inherits.
use Rattle.std.specs.Prelude.{List}
use Rattle.std.specs.Option.{option_copied}
use Rattle.ob_object.specs.Object.{Object}
use Rattle.ob_contracts.specs.Inherit.{inherited_head, implied_by, overridden, result_of, sources}
use Rattle.ob_contracts.specs.Shown.{finish}
use Rattle.ob_contracts.specs.declared.completing.Setting.{Setting}

-- what an object inherits from there
abbrev pub sources_in : Setting → Object → List Object
sources_in s o = sources s.library.now o.head (option_copied s.implied) (option_copied s.over)

-- the object with all that it inherits, with the defaults of the kinds where these are asked
abbrev pub completed_in : Setting → Object → Object
completed_in s o = finish s.defaults (result_of s.library.now o (option_copied s.implied) (option_copied s.over))

-- the same of a child of it
abbrev pub child_in : Setting → Object → Object → Object
child_in s o c =
    let from = sources_in s o in
    finish s.defaults (result_of s.library.now c (implied_by (inherited_head o.head from)) (overridden c.head.name from))
