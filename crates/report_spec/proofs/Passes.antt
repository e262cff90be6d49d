-- What is known of a sheet whose numbers pass their tests. Assumes nothing.
use Rattle.std.specs.Prelude.{None}
use mathlib.Core.Path.{◌≡◌}
use mathlib.Core.Bool.{false}
use mathlib.Core.List.{List, ◌∷◌}
use Rattle.refusal.specs.Checks.{Check, first}
use Rattle.refusal.specs.declared.Refusal.{Refusal}
use Rattle.refusal.proofs.First.{first-none}
use Rattle.stream_spec.specs.Checks.{user_check, width_check}
use Rattle.stream_spec.proofs.Passed.{WidthFits, width_fits}
use Rattle.report_setup_spec.specs.declared.Setup.{Setup}
use Rattle.report_spec.specs.Report.{shape_of, ratio_checks, Passes}

module _ (u : Setup) (p : Passes u) where
  abbrev ratio : List (Check Refusal)
  ratio = ratio_checks u.mode (shape_of u) u.width_out

  found_in : ((width_check u.width_in).found ≡ false) × (first (width_check u.width_out ∷ user_check (shape_of u) ∷ ratio) ≡ None)
  found_in = first-none (width_check u.width_in) (width_check u.width_out ∷ user_check (shape_of u) ∷ ratio) p

  found_out : ((width_check u.width_out).found ≡ false) × (first (user_check (shape_of u) ∷ ratio) ≡ None)
  found_out = first-none (width_check u.width_out) (user_check (shape_of u) ∷ ratio) found_in.1

  found-user : ((user_check (shape_of u)).found ≡ false) × (first ratio ≡ None)
  found-user = first-none (user_check (shape_of u)) ratio found_out.1

  pub sound_in : (width_check u.width_in).found ≡ false
  sound_in = found_in.0

  pub sound_out : (width_check u.width_out).found ≡ false
  sound_out = found_out.0

  pub sound-user : (user_check (shape_of u)).found ≡ false
  sound-user = found-user.0

  pub sound-ratio : first (ratio_checks u.mode (shape_of u) u.width_out) ≡ None
  sound-ratio = found-user.1

  pub fits_out : WidthFits u.width_out
  fits_out = width_fits u.width_out sound_out
