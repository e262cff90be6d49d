use Rattle.stream_write.proofs.Users.{Storing}
use Rattle.stream_write.proofs.write_user.Given as goal

abbrev pub invariant-loop-octet : goal.invariant-loop-octet
invariant-loop-octet l = Storing l.user l.k l.octet-items l.u l.octet-index
