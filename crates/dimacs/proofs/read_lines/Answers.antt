-- At each turn the lines before the position gave the state that the progress and the table hold, and what is left is to read the others (Reads).
use Rattle.std.proofs.Common.{◌∙◌, ◌<◌, List, ℕ, ap, length, subst}
use native.Mathlib.Omega.{arith}
use Rattle.std.proofs.lemmas.Result.{err_from_is_err_and}
use Rattle.dimacs.specs.Setting.{FirstLine}
use Rattle.dimacs.specs.ReadLaws.{reads_takes, reads_stop, reads_more, reads_all}
use Rattle.dimacs.proofs.read_lines.Goals as goal
use Rattle.dimacs.proofs.read_lines.Goals.{In-Some}

-- the reader's line is one of the text
within : (c : In-Some) → c.loop-line.line-iterator.at < length c.args.text.now
within c = omega (arith, c.in-Some.ensures.steps.line.0, ap length c.loop-line.invariant.text)

first : (c : In-Some) → FirstLine c.args.text.now c.loop-line.line-iterator.at c.in-Some.line
first c =
    subst (λ (t : List ℕ). FirstLine t c.loop-line.line-iterator.at c.in-Some.line) c.loop-line.invariant.text c.in-Some.ensures.steps.line.1

pub take_line-requires : goal.take_line-requires
take_line-requires c = reads_takes c.loop-line.invariant.reads (within (goal.at.take_line-requires c).In-Some) (omega (arith, c.well_formed.0.1))

pub returns-in_err-take_line : goal.returns-in_err-take_line
returns-in_err-take_line c =
    let p = err_from_is_err_and c.from_residual.result c.from_residual.ensures.1 in
    let i = (goal.at.returns-in_err-take_line c).In-Some in
    let h = c.loop-line.invariant.reads in
    rw (p.1, p.2) (reads_stop h (within i) (first i) _ _ (c.in_err-take_line.ensures h.state h.stands))

pub loop-line-preserved : goal.loop-line-preserved
loop-line-preserved c =
    let i = (goal.at.loop-line-preserved c).In-Some in
    let h = c.loop-line.invariant.reads in
    let given = c.in-Some.ensures.steps in
    record {
      text = given.text ∙ c.loop-line.invariant.text;
      reads = rw given.line.2 (reads_more h (within i) (first i) _ _ (c.in_ok-take_line.ensures h.state h.stands));
    }

pub returns : goal.returns
returns c = reads_all c.loop-line.invariant.reads (omega (arith, c.in-None.ensures.steps.line, ap length c.loop-line.invariant.text))
