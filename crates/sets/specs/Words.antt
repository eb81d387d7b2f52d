-- The words that hold sets: the one place that knows how a set is stored. Other crates use the laws and cannot look inside.
--
--   word_bits        the digits of a word;  per_set, the words of a set;  width, the most vertices that a set can have
--   number xs       the number that the words xs are, the lowest first;  Fit xs, each is one of word_bits digits
--   words s         the words of a set;  word_of s j, word j of them
--   mask s          the set that is stored as s
--   groups w c ws   the numbers of the first c groups of w words
--   masks ws        the sets that are stored in lent words, by position: the rows of a graph, the slots of a buffer
--   Lowest s v      v is the lowest member of the set s
use Rattle.std.specs.Prelude.{ℕ, zero, suc, ◌+◌, ◌*◌, ◌/◌, ◌<◌, ◌^◌, ◌≡◌, List, [], ◌∷◌, length, take, drop, get_or}
use Rattle.sets.specs.Set.{bit, In}
use Rattle.sets.specs.declared.Set.{Set}
pub mod Numbers
pub mod Groups
pub mod Masks
pub mod Operations

abbrev pub word_bits : ℕ
word_bits = 64

abbrev pub per_set : ℕ
per_set = 1

abbrev pub width : ℕ
width = 64

unfoldable pub number : List ℕ → ℕ
number [] = 0
number (x ∷ xs) = number xs * 2 ^ word_bits + x

abbrev pub Fit : List ℕ → Type 0
Fit [] = Unit {0}
Fit (x ∷ xs) = (x < 2 ^ word_bits) × Fit xs

abbrev pub words : Set → List ℕ
words s = s.word ∷ []

pub word_of : Set → ℕ → ℕ
word_of s j = get_or (words s) j 0

pub mask : Set → ℕ
mask s = number (words s)

unfoldable pub groups : ℕ → ℕ → List ℕ → List ℕ
groups w zero ws = []
groups w (suc c) ws = number (take w ws) ∷ groups w c (drop w ws)

pub masks : List ℕ → List ℕ
masks ws = groups per_set (length ws / per_set) ws

pub record Lowest (s v : ℕ) : Type 0 where
  pub fits : v < width
  pub member : In v s
  pub least : (u : ℕ) → u < v → bit s u ≡ 0
