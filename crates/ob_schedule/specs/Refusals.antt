-- What a refusal of a file says.
use Rattle.ob_object.specs.Object.{Object}
use Rattle.ob_schedule.specs.declared.fault.ScheduleFault.{ScheduleFault}
use Rattle.ob_schedule.specs.declared.fault.ScheduleFault.TheVariants.{Shape, Memory}
use Rattle.ob_schedule.specs.Forms.{IsFirstOffence}
use Rattle.ob_schedule.specs.PointRules.{PointRules}

-- the offence is the first, or memory was wanting
abbrev pub Refuses : PointRules → Object → ScheduleFault → Type 0
Refuses site doc (Shape offence) = IsFirstOffence site doc offence
Refuses site doc Memory = Unit {0}
