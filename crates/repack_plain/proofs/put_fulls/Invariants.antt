use mathlib.Core.List.{map}
use Rattle.repack_scratch.specs.Codes.{data_code}
use Rattle.repack_plain.specs.Write.{Advanced}
use Rattle.repack_plain.proofs.put_fulls.Given as goal

abbrev pub invariant-loop-c : goal.invariant-loop-c
invariant-loop-c l = Advanced 0 l.v l.fn.head (map data_code l.octets) l.initial.out l.initial.c l.out l.c

abbrev pub decreases-loop-c : goal.decreases-loop-c
decreases-loop-c l = l.c.left
