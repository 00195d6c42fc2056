-- The paths that texts lead to, as ob_href says it. Source: oBIX 1.1, chapter 6 (Naming).
use Rattle.std.specs.Prelude.{Option, Some, None, Result, Ok, Err}
use Rattle.url.specs.Parts.{Parts}
use Rattle.url.specs.Parser.{parse_url}
use Rattle.ob_href.specs.Href.{located_path, resolved_path, as_base}
use Rattle.ob_href.specs.declared.fault.HrefFault.{HrefFault}
use Rattle.ob_site_rules.specs.Build.{Text, Path}

-- what a reading of an href gives, if it gives something
abbrev pub if_given : {A : Type 0} → Result A HrefFault → Option A
if_given (Ok a) = Some a
if_given (Err e) = None

-- the path that a request's target, an item of a batch or an asked text leads to, whatever host it names
abbrev pub locate : Parts → Text → Option Path
locate base text = if_given (located_path base text)

-- the path that a text of the site file leads to, at the root's origin
abbrev pub resolve : Parts → Text → Option Path
resolve base text = if_given (resolved_path base text)

-- the URL that a text is, of the web and without a fragment
abbrev pub root_url : Text → Option Parts
root_url text = if_given (as_base (parse_url None text))
