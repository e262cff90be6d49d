-- Every worked case comes out as it says: by computing. Assumes nothing.
use mathlib.Core.List.{map}
use mathlib.Core.Path.{◌≡◌, refl}
use Rattle.stream_spec.specs.Layout.{size}
use Rattle.merge_spec.specs.Answers.{merge_answer, merge_after}
use Rattle.merge_spec.specs.Cases.{computed, merge_cases}

pub every_case : map computed merge_cases ≡ merge_cases
unfolding size merge_answer merge_after
every_case = refl
