-- The text of the storm's site opens one: what its root opens is computed.
use Rattle.std.proofs.Common.{◌≡◌, true, None, refl, sym, subst, arith}
use Rattle.std.specs.Prelude.{is_ok, Result, Ok, Err}
use Rattle.std.specs.Fmt.{digits}
use Rattle.std.proofs.lemmas.List.{take_all}
use Rattle.percent_encoding.specs.AsciiSet.{should_percent_encode}
use Rattle.percent_encoding.specs.Percent.{percent_encode, percent_decode}
use Rattle.url.specs.Host.{ascii_domain, parse_special_host}
use Rattle.url.specs.Input.{trim_c0_control_and_space, strip_tabs_and_new_lines, split_once, rsplit_once}
use Rattle.url.specs.Ipv4.{parse_number, ends_in_a_number}
use Rattle.url.specs.Parser.{host_len, parse_port, parse_authority, leading_slashes, after_double_slash, parse_relative, parse_body, parse_parts, split_scheme, parse_url}
use Rattle.url.specs.Path.{dot_count, is_windows_drive_letter, drive_letter_prefix, shorten_path, push_segment, parse_segments, parse_path_start}
use Rattle.url.specs.Scheme.{default_port, scheme_type, scheme_len}
use Rattle.ob_contracts.specs.Inherit.{result_of}
use Rattle.ob_contracts.specs.Standard.{standard}
use Rattle.ob_load.specs.Loads.{OpensSite}
use Rattle.ob_site_rules.specs.Opening.{opening}
use Rattle.ob_storm.specs.Runs.{boot}
use Rattle.ob_storm.specs.Site.{site_text}
use Rattle.ob_program.specs.Stdio.{site_bytes}
use Rattle.ob_program.proofs.StormRoot.{root}
use Rattle.ob_program.proofs.StormText.{spells}

is_opened : is_ok (opening (root 100) boot) ≡ true
unfolding digits should_percent_encode parse_number percent_encode percent_decode ascii_domain parse_special_host trim_c0_control_and_space strip_tabs_and_new_lines split_once rsplit_once ends_in_a_number host_len parse_port parse_authority leading_slashes after_double_slash parse_relative parse_body parse_parts split_scheme parse_url dot_count is_windows_drive_letter drive_letter_prefix shorten_path push_segment parse_segments parse_path_start default_port scheme_type scheme_len result_of standard
is_opened = refl

opened_of : {A E : Type 0} (r : Result A E) → is_ok r ≡ true → (a : A) × (r ≡ Ok a)
opened_of (Ok a) h = (a, refl)
opened_of (Err e) h = absurd (cc)

pub text_opens : OpensSite (site_bytes site_text)
text_opens =
    let opened = opened_of (opening (root 100) boot) is_opened in
    subst OpensSite (sym (take_all 16_777_217 site_text (omega (arith, spells.small)))) (boot, None, opened.0, (root 100, (spells, opened.1)))
