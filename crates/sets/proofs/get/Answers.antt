-- The set at position i starts at word i * WORDS, which lies within the words, and is read from there.
use Rattle.std.proofs.Common.{ℕ, List, ◌*◌, ◌<◌, length, arith, rules}
use borrow.Author.Rules.{scaled_Fits}
use Rattle.sets.specs.Words.{per_set, masks}
use Rattle.sets.specs.Words.Operations.{get_mask}
use Rattle.sets.specs.Words.Masks.{count_masks}
use Rattle.sets.proofs.get.Goals as goal

inside : (words : List ℕ) (i : ℕ) → i < length (masks words) → i * per_set < length words
inside words i h = omega (arith, count_masks words, h)

pub offset_bounds-words-i : goal.offset_bounds-words-i
offset_bounds-words-i c = scaled_Fits (c.args.i * per_set) (length c.args.words.now) 8 (inside c.args.words.now c.args.i c.requires) (search rules)

pub bounds-words-i : goal.bounds-words-i
bounds-words-i c = inside c.args.words.now c.args.i c.requires

pub returns : goal.returns
returns c = get_mask c.args.words.now c.args.i c.requires
