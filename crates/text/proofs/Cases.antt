-- The worked cases hold: antt computes what the definitions give, and compares it with what was typed. Assumes nothing.
use mathlib.Core.Path.{◌≡◌, refl}
use mathlib.Core.List.{[], ◌∷◌, map}
use Rattle.text.specs.Text.{decimal, line, Case, cases, line_case}

pub decimals : map (λ (c : Case). decimal c.number) cases ≡ map (λ (c : Case). c.text) cases
unfolding decimal cases
decimals = refl

pub a-line : line (0x61 ∷ 0x74 ∷ 0x3D ∷ []) 12 ≡ line_case
unfolding decimal line_case
a-line = refl
