-- The site that a document opens, with nothing left open: by the URL that the root's href spells, by the paths that texts lead
-- to from it, and by the built-in contracts.
use Rattle.std.specs.Prelude.{ℕ, [], Result}
use Rattle.ob_object.specs.Object.{Object}
use Rattle.ob_contracts.specs.Inherit.{Contracts}
use Rattle.ob_contracts.specs.Standard.{standard}
use Rattle.ob_hrefs.specs.Hrefs.{root_url, site_path}
use Rattle.ob_site_rules.specs.Sites.{SiteState}
use Rattle.ob_site_rules.specs.Roles.{worded_contracts}
use Rattle.ob_site_rules.specs.Loading.{LoadFault, opening_of}

-- the built-in contracts, each part with its words as `is`
abbrev pub standard_words : Contracts
standard_words = worded_contracts [] standard

-- the state that a document's root opens at a moment, or the first refusal in order
abbrev pub opening : Object → ℕ → Result SiteState LoadFault
opening = opening_of root_url site_path standard standard_words
