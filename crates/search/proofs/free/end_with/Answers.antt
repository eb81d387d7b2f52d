-- Every clique to be found has the only candidate v, else v could be added to it: so v joins the clique, and no candidate is left.
use native.Mathlib.Omega.{arith}
use mathlib.Core.Path.{refl}
use Rattle.judging.specs.Request.{request}
use Rattle.search.specs.TakeLaws.{joined}
use Rattle.search.specs.EndLaws.{one_vertex, one_taking, one_adds}
use Rattle.search.proofs.free.end_with.Goals as goal

pub get-requires : goal.get-requires
get-requires c = one_vertex _ c.requires

pub with-requires : goal.with-requires
with-requires c = omega (arith, one_vertex _ c.requires, c.requires.most)

pub returns-clause-fills : goal.returns-clause-fills
returns-clause-fills c =
    let grown = joined c.with.ensures c.get.ensures c.meet-beside.ensures in
    one_adds _ c.requires grown (request 1 0 0) refl (c.end.ensures.fills _ (one_taking _ c.requires grown))
