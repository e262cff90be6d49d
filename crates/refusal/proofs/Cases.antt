-- Each line of the table is what `code_of` shows: by computing. Assumes nothing.
use mathlib.Core.Path.{◌≡◌, refl}
use mathlib.Core.List.{List, map}
use lib.ListN.{length}
use Rattle.refusal.specs.declared.Code.{Code}
use Rattle.refusal.specs.Code.{code_of}
use Rattle.refusal.specs.Cases.{Line, table}

pub every_line : ◌≡◌ {A = List Code} (map (λ (l : Line). code_of l.refusal) table) (map (λ (l : Line). l.shows) table)
unfolding table
every_line = refl

-- 1 to 17: no line has gone from the table
pub seventeen : length table ≡ 17
unfolding table
seventeen = refl
