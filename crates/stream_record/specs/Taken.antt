-- What a take that has passed its tests is made of, as contracts say it.
use Rattle.std.specs.Prelude.{◌≡◌, List, ℕ}
use Rattle.stream_spec.specs.declared.Shape.{Shape}
use Rattle.stream_record.specs.declared.take.Take.{Take}

-- this shape and these octets
pub record IsTakeOf (s : Shape) (xs : List ℕ) (t : Take) : Type 0 where
  pub shape : t.shape ≡ s
  pub octets : t.octets.now ≡ xs
