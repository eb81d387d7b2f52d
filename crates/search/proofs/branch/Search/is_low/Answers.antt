-- The silent members of a that are not in s are left out, and q counts those of s: then the number of members decides.
use native.Mathlib.Omega.{arith}
use Rattle.std.specs.Prelude.{◌≡◌}
use mathlib.Core.Path.{◌∙◌, ap}
use lib.Bits.{bit_or}
use Rattle.sets.specs.Words.{mask}
use Rattle.judging.specs.Request.{Request}
use Rattle.search.specs.FoundLaws.{counting-between, short_lacks, large_enough}
use Rattle.search.specs.Ready.{lowered}
use Rattle.search.specs.RecordedLaws.{counting}
use Rattle.search.proofs.branch.Search.is_low.Goals as goal
use Rattle.search.proofs.branch.Search.is_low.Goals.{After-join-counted}

-- the request for what holds s
abbrev ask : After-join-counted → Request
ask c = lowered c.args.self.now.k c.args.q (mask c.args.self.now.silent) (mask c.args.s)

counts : (c : After-join-counted) → mask c.join-counted.result ≡ counting (ask c) (mask c.args.s) (mask c.args.a)
counts c = c.join-counted.ensures ∙ ap (bit_or (mask c.args.s)) c.minus.ensures

pub is_short-requires : goal.is_short-requires
is_short-requires c =
    let at = (goal.at.is_short-requires c).After-join-counted in
    counting-between (ask at) c.requires.0 (counts at)

pub returns : goal.returns
returns c =
    let at = (goal.at.returns c).After-join-counted in (
      λ e. short_lacks (ask at) c.requires.0 (counts at) (omega (arith, c.requires.1)) (c.is_short.ensures.0 e),
      λ e. large_enough (ask at) c.requires.0 (counts at) (omega (arith, c.requires.1)) (c.is_short.ensures.1 e),
    )
