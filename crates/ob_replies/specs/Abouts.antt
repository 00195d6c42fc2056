-- The children of About in three parts: of the server, of its vendor and of the product.
use Rattle.std.specs.Prelude.{ℕ, codes, List, [], ◌∷◌, Some}
use Rattle.ob_times.specs.Times.{moment_instant}
use Rattle.ob_object.specs.declared.kind.Kind.TheVariants as kind
use Rattle.ob_object.specs.Object.{Object}
use Rattle.ob_site_rules.specs.Build.{valued, text_slot, time_slot}
use Rattle.ob_site_rules.specs.declared.plan.Plan.{Plan}
use Rattle.ob_site_rules.specs.Computed.{about_str, about_uri}

abbrev pub server_children : Plan → ℕ → List Object
server_children plan now =
    valued kind.Str (codes "obixVersion") (text_slot (codes "1.1"))
    ∷ about_str plan (codes "serverName") (codes "obix")
    ∷ valued kind.Abstime (codes "serverTime") (time_slot (Some (moment_instant now)))
    ∷ valued kind.Abstime (codes "serverBootTime") (time_slot (Some (moment_instant plan.boot)))
    ∷ []

abbrev pub vendor_children : Plan → List Object
vendor_children plan = about_str plan (codes "vendorName") (codes "none") ∷ about_uri plan (codes "vendorUrl") [] ∷ []

abbrev pub product_children : Plan → List Object
product_children plan =
    about_str plan (codes "productName") (codes "obix")
    ∷ about_str plan (codes "productVersion") (codes "1.0")
    ∷ about_uri plan (codes "productUrl") []
    ∷ about_str plan (codes "tz") (codes "UTC")
    ∷ []
