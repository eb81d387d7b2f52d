-- What is written is the answer to what was read: the front of the input, in as many bytes as `answer` says, with room for 4096 sets.
use Rattle.std.proofs.Common.{◌≡◌, ℕ, List, take, Result, Ok, Err, OnOk, IfSome, None, Some, refl, sym, ap, ap₂, ◌∙◌, subst, length-take-le, arith}
use Rattle.std.specs.declared.option.Option.{Option}
use Rattle.std.specs.Io.KnownBytes.{Appends}
use Rattle.sets.specs.Words.Masks.{count_masks}
use Rattle.sheets.specs.OverLaws.{over_front}
use Rattle.answers.specs.Output.{Writes}
use Rattle.answers.specs.Answer.{answer_text}
use Rattle.answers.specs.AnswerLaws.{writes_fit}
use Rattle.kplexes.proofs.run.Goals as goal

written_front : {new old out : List ℕ} {r : ℕ} → Writes new old out r → take r out ≡ new
written_front {new} {old} {out} {r} w = ap (take r) w.text ∙ over_front new old (sym w.count)

-- front was read into a buffer of `most` bytes, and answered with room for `room` sets
answered_all : {E : Type 0} (known from to : Option (List ℕ)) (front old out : List ℕ) (r long most slots room : ℕ) (result : Result (Unit {0}) E)
    → long ≡ most → slots ≡ room → IfSome known (λ text. front ≡ take long text) → Writes (answer_text front slots) old out r
    → OnOk result (Appends from to (take r out)) → OnOk result (IfSome known (λ text. Appends from to (answer_text (take most text) room)))
answered_all None from to front old out r long most slots room (Ok u) l s h w p = tt
answered_all (Some text) from to front old out r long most slots room (Ok u) l s h w p =
    let same = ap₂ answer_text (h ∙ ap (λ (m : ℕ). take m text) l) s in subst (Appends from to) (written_front w ∙ same) p
answered_all known from to front old out r long most slots room (Err e) l s h w p = tt

pub slice_bounds-out-end : goal.slice_bounds-out-end
slice_bounds-out-end g c = omega (arith, writes_fit _ _ c.answer-r.new.out c.answer-r.result c.answer-r.ensures.written)

pub slice_bounds-write_all-end : goal.slice_bounds-write_all-end
slice_bounds-write_all-end g c =
    let answer = c.answer-r in
    sym (length-take-le _ answer.new.out (omega (arith, writes_fit _ _ answer.new.out answer.result answer.ensures.written)))

pub returns : goal.returns
returns g c =
    let answer = c.answer-r in
    record {
      answers =
          answered_all _ _ _ _ _ answer.new.out answer.result _ 1113 _ 4096 c.write_all.result refl (sym (count_masks _))
          c.in_ok-n.ensures.front answer.ensures.written c.write_all.ensures.bytes;
    }
