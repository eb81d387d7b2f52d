-- Each arm is a case of the definition.
use Rattle.std.proofs.Common.{ap, ◌≡◌, rules, Some}
use Rattle.dimacs.specs.Setting.{kind_told}
use Rattle.dimacs.specs.StateLaws.{other_comes, comment_comes}
use Rattle.dimacs.specs.declared.lines.Kind.TheVariants.{Comment}
use Rattle.dimacs.proofs.state.Scan.take_line.Goals as goal

pub returns-in-Some-Comment : goal.returns-in-Some-Comment
returns-in-Some-Comment c s h = let e : c.args.kind ≡ Some Comment = search rules in comment_comes _ (ap kind_told e) _ _ _ s h

pub returns-in-None : goal.returns-in-None
returns-in-None c s h = other_comes c.in-None.is _ _ s
