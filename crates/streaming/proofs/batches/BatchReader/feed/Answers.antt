use Rattle.std.proofs.Common.{ap, ◌∙◌, arith}
use Rattle.std.proofs.lemmas.Result.{err_from_is_err_and}
use Rattle.std.proofs.lemmas.Bool.{ltb-true}
use Rattle.cutting.proofs.Fed.{fed_length_is}
use Rattle.streaming.specs.Batches.{ReaderView, read_length}
use Rattle.streaming.proofs.JoinedBatches.{fault_is, grown, read_length_is, read_on, reading_on}
use Rattle.streaming.proofs.batches.BatchReader.feed.Goals as goal

pub returns-in_err-feed-clause-fault : goal.returns-in_err-feed-clause-fault
returns-in_err-feed-clause-fault g c =
    let p = err_from_is_err_and c.from_residual.result c.from_residual.ensures.1 in
    rw (p.1, p.2) (λ before runs to.
    fault_is g.S.Source _ c.args.self.now.target _ _ _ (c.in_err-feed.ensures.fault before to.bytes c.args.self.now.limit to.gave
    (omega (arith, read_length_is to.has, c.length.ensures.same, c.length.ensures.within, ap (λ (v : ReaderView). v.limit) c.self.view_is))))

pub invariant_of-self : goal.invariant_of-self
invariant_of-self g c =
    let inv = c.self.invariant in
    let has = c.in_err-feed.ensures.same inv.fed inv.has in
    reading_on inv has (c.in_err-feed.ensures.target ∙ inv.same)
    (omega (arith, fed_length_is c.self.inside.cutter inv.fed inv.has, fed_length_is c.feed.new.self inv.fed has, inv.within))

pub invariant_of-self-2 : goal.invariant_of-self-2
invariant_of-self-2 g c =
    let inv = c.self.invariant in
    let (taken, long, gave, fed) = c.in_ok-feed.ensures.fed in
    let has = fed inv.fed inv.has in
    reading_on inv has (c.in_ok-feed.ensures.target ∙ inv.same)
    (omega (
      arith,
      grown taken inv.has has,
      long,
      c.in_ok-feed.ensures.within,
      c.length.ensures.same,
      c.length.ensures.within,
      ap read_length c.self.view_is,
    ))

pub returns-clause-read : goal.returns-clause-read
returns-clause-read g c =
    let (taken, long, gave, fed) = c.in_ok-feed.ensures.fed in
    rw (← c.self.view_is) (λ before runs to. read_on g.S.Source g.met.S.Source.gave_more to gave (fed to.has.fed to.has.has))

pub returns-clause-longer : goal.returns-clause-longer
returns-clause-longer g c = λ some.
    let inv = c.self.invariant in
    let (taken, long, gave, fed) = c.in_ok-feed.ensures.fed in
    omega (arith, grown taken inv.has (fed inv.fed inv.has), long, ltb-true 0 _ some, ap read_length c.self.view_is)

pub returns-clause-within : goal.returns-clause-within
returns-clause-within g c =
    let inv = c.self.invariant in
    let (taken, long, gave, fed) = c.in_ok-feed.ensures.fed in
    omega (
      arith,
      grown taken inv.has (fed inv.fed inv.has),
      long,
      c.in_ok-feed.ensures.within,
      c.length.ensures.same,
      c.length.ensures.within,
      ap read_length c.self.view_is,
    )
