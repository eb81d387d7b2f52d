-- What the members of s allow and what the classes of the rest allow are added.
use Rattle.std.proofs.Common.{arith}
use Rattle.largest.specs.ColourLaws.{coloured_size, part_judgeable, sharing_judgeable, coloured_any, shared_rest}
use Rattle.largest.proofs.task.Task.falls_short.Goals as goal

pub returns-then-size-self : goal.returns-then-size-self
returns-then-size-self c e = (_, coloured_size _ _ _ _, omega (arith, c.if-size-self.true, c.size-2.ensures.0, c.size.ensures.0))

pub by_classes-requires : goal.by_classes-requires
by_classes-requires c =
    let settled = c.args.self.now.settled in
    let sharing = sharing_judgeable (record { sized = settled.sized; valid = settled.valid; floor = settled.floor; fine = c.requires }) in
    part_judgeable _ c.by_members-count.ensures.1.part sharing

pub returns : goal.returns
returns c e =
    let rest = c.by_classes.ensures e in
    (_, shared_rest c.by_members-count.ensures.1 (coloured_any rest.1 _), omega (arith, c.by_members-count.ensures.2, rest.2))
