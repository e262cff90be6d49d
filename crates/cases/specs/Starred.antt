-- Paper 01: "Starred ones are proved over the definitions, gathered as entries of a single list that one statement covers."
-- The entries are stream_spec's S1 to S5 and burst_spec's B1 to B4, with inputs and answers typed from the paper there.
use Rattle.std.specs.Prelude.{List, ◌++◌, map}
use Rattle.stream_spec.specs.Cases as stream
use Rattle.burst_spec.specs.Cases as burst
use Rattle.burst_spec.specs.Answers.{Values}

-- a starred case, and what is told of one
pub data Case : Type 0 where
  on_stream : stream.Case → Case
  on_burst : burst.Case → Case

pub data Told : Type 0 where
  of_stream : stream.Told → Told
  of_burst : Values → Told

-- what the definitions tell, and what the paper tells
unfoldable pub computed : Case → Told
unfolding stream.answer
computed (on_stream c) = of_stream (stream.answer c.asked)
computed (on_burst c) = of_burst (burst.answer_to c.question c.burst)

unfoldable pub expected : Case → Told
expected (on_stream c) = of_stream c.told
expected (on_burst c) = of_burst c.told

unfoldable pub starred : List Case
unfolding stream.bench_cases
starred = map on_stream stream.bench_cases ++ map on_burst (burst.b1 ++ burst.b2 ++ burst.b3 ++ burst.b4)
