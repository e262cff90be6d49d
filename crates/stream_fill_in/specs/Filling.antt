-- Fill-in record by record, against stream_spec's Handshake.
use Rattle.std.specs.Prelude.{◌≡◌, Bool, List, ℕ, drop}
use Rattle.stream_spec.specs.declared.Shape.{Shape}
use Rattle.stream_spec.specs.Layout.{record_count}
use Rattle.stream_spec.specs.Handshake.{filled_in}
use Rattle.stream_spec.specs.Memory.{in_front, Writing}
use Rattle.stream_spec.specs.Walk.{Left}

-- what filling leaves and answers
pub record Filled (level : Bool) (s : Shape) (before after : List ℕ) (n : ℕ) : Type 0 where
  pub octets : after ≡ in_front (filled_in level s before) before
  pub count : n ≡ record_count s before

-- what is known at the start of each turn: the records in front of `at` stand filled, and what follows is as it was
pub record Filling (level : Bool) (s : Shape) (before now : List ℕ) (at : ℕ) : Type 0 where
  pub left : Left s before at
  pub writing : Writing before now at (filled_in level s before) (filled_in level s (drop at before))
