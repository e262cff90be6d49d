-- Every worked case holds: antt computes what the definitions tell, and compares it with what was typed from the papers. The
-- cases that 01's 'Errors that look right' names, and the reset that ends a wait, stand once more by themselves, so that what
-- refuses the error has the case's name. Assumes nothing.
use mathlib.Core.Path.{◌≡◌, refl}
use mathlib.Core.List.{List, [], ◌∷◌, map}
use Rattle.stream_spec.specs.Layout.{size}
use Rattle.stream_spec.specs.Answers.{judge_answer, harvest_answer, harvest_after, fill_answer, fill_after, data_answer, data_part, data_start, repack_answer, repack_after, downsize_answer, downsize_after}
use Rattle.stream_spec.specs.Cases.{Case, Told, answer, s1, s2, s3, s4, s5, s7, reset_ends_wait, bench_cases, worked_cases}

abbrev pub AllHold : List Case → Type 0
AllHold cs = ◌≡◌ {A = List Told} (map (λ (c : Case). answer c.asked) cs) (map (λ (c : Case). c.told) cs)

pub bench : AllHold bench_cases
unfolding answer bench_cases size judge_answer harvest_answer harvest_after fill_answer fill_after data_answer data_part data_start repack_answer repack_after downsize_answer downsize_after
bench = refl

-- no starred case has gone from the list
pub starred-whole : bench_cases ≡ s1 ∷ s2 ∷ s3 ∷ s4 ∷ s5 ∷ []
unfolding bench_cases
starred-whole = refl

pub worked : AllHold worked_cases
unfolding answer worked_cases size judge_answer harvest_answer harvest_after fill_answer fill_after data_answer data_part data_start repack_answer repack_after downsize_answer downsize_after
worked = refl

pub case-s3 : AllHold (s3 ∷ [])
unfolding answer size repack_answer repack_after
case-s3 = refl

pub case-s7 : AllHold (s7 ∷ [])
unfolding answer size repack_answer repack_after
case-s7 = refl

pub case_reset : AllHold (reset_ends_wait ∷ [])
unfolding answer size judge_answer
case_reset = refl
