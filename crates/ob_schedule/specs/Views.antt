-- Parts of the code as the definitions have them; no public clause stands on this.
use Rattle.ob_object.specs.declared.kind.Kind.{Kind}
use Rattle.ob_schedule.specs.declared.point.Point as code_point
use Rattle.ob_schedule.specs.PointRules.{Text}

-- a writable point, and the kind of its values
abbrev pub point_of : code_point.Point → Text × Kind
point_of p = (p.path.now, p.kind)
