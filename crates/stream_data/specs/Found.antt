-- The answer of a search without what was found, as stream_spec's Answers has it.
use Rattle.std.specs.Prelude.{Result, Ok, Err}
use Rattle.refusal.specs.declared.Refusal.{Refusal}

abbrev pub refusal_of : {T : Type 0} → Result T Refusal → Result (Unit {0}) Refusal
refusal_of (Ok found) = Ok tt
refusal_of (Err f) = Err f
