-- The vertices that are not silent are all but the silent ones; their core and what is attached to it hold every listed plex.
use Rattle.std.specs.Prelude.{◌≡◌, ℕ, length}
use mathlib.Core.Path.{ap, ◌∙◌}
use Rattle.sets.specs.Set.{minus, full}
use Rattle.sets.specs.Words.{mask, masks}
use Rattle.search.specs.StartLaws.{others_judgeable, beside_candidates}
use Rattle.search.proofs.core_beside.Goals as goal

pub core_within-core-requires : goal.core_within-core-requires
core_within-core-requires c =
    let others : mask c.minus-others.result ≡ minus (full (length (masks c.args.rows.now))) (mask c.args.silent) =
    c.minus-others.ensures ∙ ap (λ (x : ℕ). minus x (mask c.args.silent)) (c.full.ensures ∙ ap full c.count.ensures) in
    others_judgeable c.requires others

pub returns : goal.returns
returns c =
    let others : mask c.minus-others.result ≡ minus (full (length (masks c.args.rows.now))) (mask c.args.silent) =
    c.minus-others.ensures ∙ ap (λ (x : ℕ). minus x (mask c.args.silent)) (c.full.ensures ∙ ap full c.count.ensures) in
    beside_candidates c.requires others c.core_within-core.ensures c.attached.ensures c.join.ensures
