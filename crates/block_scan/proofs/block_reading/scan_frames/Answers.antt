use Rattle.std.proofs.Common.{◌≡◌, ◌+◌, [], arith, refl, subst}
use Rattle.std.proofs.lemmas.Grind.{common_steps}
use Rattle.std.proofs.lemmas.List.Elements.{All-nil}
use Rattle.day_file.proofs.Joined.{reading_of}
use Rattle.day_file.proofs.Readings.{IsStuck-nil}
use Rattle.block_scan.proofs.Filled.{piece_of, turned}
use Rattle.block_scan.proofs.block_reading.scan_frames.Goals as goal

pub loop-place-init : goal.loop-place-init
loop-place-init g c = record {
  frames = [];
  bytes = [];
  room = c.requires.room;
  filled_is = refl;
  held = All-nil _;
  gave = g.met.S.BlockSource.gave_nothing c.args.source.now c.args.start;
  stands = record { places = tt; short = All-nil _; whole = refl };
  are = All-nil _;
  place_is = omega arith;
  within = omega (arith, c.requires.start);
  scan_is = c.requires.empty;
  stuck = λ h. IsStuck-nil;
  short = λ h. omega arith;
}

pub loop-place-preserved : goal.loop-place-preserved
loop-place-preserved g c =
    let i = c.loop-place.invariant in
    let told = c.in_ok-count.ensures in
    let of = c.of-frames.ensures in
    turned g.S.BlockSource.GaveAt g.met.S.BlockSource.gave_more c.read_some.new.into c.requires.request i (i.short c.loop-place-test.true) refl c.read_some.auto.into
    told.count told.gave told.bytes told.within (reading_of _ _ _ _ of.whole of.truncated of.end).1 c.in_ok-walked.ensures.taken
    c.copy_within.ensures.after c.copy_within.auto.self

pub returns-then-filled-eq0-clause-piece : goal.returns-then-filled-eq0-clause-piece
returns-then-filled-eq0-clause-piece g c =
    let l = c.loop-place in
    let here : l.place + l.filled ≡ l.place = omega arith in
    piece_of g.S.BlockSource _ l.invariant (λ e. subst (g.S.BlockSource.EndsAt c.args.source.now) here (c.in_ok-count.ensures.end c.if-count-eq0.true))
    (λ e. absurd (cc))

pub returns-else-filled-eq0-clause-piece : goal.returns-else-filled-eq0-clause-piece
returns-else-filled-eq0-clause-piece g c =
    piece_of g.S.BlockSource _ c.loop-place.invariant (λ e. absurd (cc))
    (λ e. (omega arith, c.loop-place-test.true, c.in_ok-count.ensures.end c.if-count-eq0.true))

pub returns-clause-piece : goal.returns-clause-piece
returns-clause-piece g c = piece_of g.S.BlockSource _ c.loop-place.invariant (λ e. absurd (cc)) (λ e. absurd (cc))

pub copy_within-requires-clause-start_le_end : goal.copy_within-requires-clause-start_le_end
copy_within-requires-clause-start_le_end g c = grind (arith, common_steps)

pub overflow_sub-filled : goal.overflow_sub-filled
overflow_sub-filled g c = grind (arith, common_steps)

pub overflow_add-place : goal.overflow_add-place
overflow_add-place g c = grind (arith, common_steps)
