-- Every starred case of paper 01 holds, in one statement: by computing. Assumes nothing.
use mathlib.Core.Path.{◌≡◌, refl}
use mathlib.Core.List.{[], ◌∷◌, ◌++◌, map}
use Rattle.stream_spec.specs.Cases as stream
use Rattle.stream_spec.specs.Layout.{size}
use Rattle.stream_spec.specs.Answers.{judge_answer, harvest_answer, harvest_after, fill_answer, fill_after, data_answer, data_part, repack_answer, repack_after, downsize_answer, downsize_after}
use Rattle.burst_spec.specs.Cases as burst
use Rattle.burst_spec.specs.Address.{round_down, incr_address, wrap_address, address_by, incr_step, wrap_step, step_by}
use Rattle.burst_spec.specs.Checks.{some_below, bus_allowed, count_allowed, misaligned, crosses_by}
use Rattle.cases.specs.Starred.{on_stream, on_burst, computed, expected, starred}

pub every_starred-case : map computed starred ≡ map expected starred
unfolding computed expected starred stream.answer stream.bench_cases size judge_answer harvest_answer harvest_after fill_answer fill_after data_answer data_part repack_answer repack_after downsize_answer downsize_after round_down incr_address wrap_address address_by incr_step wrap_step step_by some_below bus_allowed count_allowed misaligned crosses_by
every_starred-case = refl

-- none of them has gone from the list: S1 to S5 and B1 to B4, whose own entries are counted in burst_spec (starred-whole)
pub starred-whole : starred ≡ map on_stream (stream.s1 ∷ stream.s2 ∷ stream.s3 ∷ stream.s4 ∷ stream.s5 ∷ []) ++ map on_burst (burst.b1 ++ burst.b2 ++ burst.b3 ++ burst.b4)
unfolding starred stream.bench_cases
starred-whole = refl
