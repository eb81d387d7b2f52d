-- The line of a set has no more digits than a word, so that it shows only the lowest word of its mask.
use Prim.Native.Nat.{ℕ, ◌-◌}
use native.Mathlib.Omega.{arith}
use mathlib.Core.Path.{sym, ap, ◌∙◌}
use lib.ListN.{length}
use Rattle.sets.specs.Words.Operations.{word_low}
use Rattle.sheets.specs.Digits.{digits}
use Rattle.sheets.specs.DigitLaws.{digits_word}
use Rattle.sheets.specs.Lines.{line}
use Rattle.sheets.proofs.lines.write_row.Goals as goal

pub returns : goal.returns
returns c =
    let w = length c.args.text.now - 1 in
    let q = word_low c.args.s in
    c.write_line.ensures
    ∙ ap (λ (x : ℕ). line (digits w x)) c.word.ensures
    ∙ ap line (sym (ap (digits w) q.1 ∙ digits_word w q.0 _ (omega (arith, c.requires))))
