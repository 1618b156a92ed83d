use Rattle.std.proofs.Common.{◌≡◌, ℕ, ◌+◌, ◌-◌, ◌≤◌, List, [], ◌∷◌, ◌++◌, length, take, drop, arith, ap, sym, subst, ◌∙◌}
use Rattle.std.proofs.lemmas.List.{drop-drop, length-drop, length-take-le, take-take}
use Rattle.day_file.specs.Cuts.{IsRun}
use Rattle.cutting.proofs.rest.Rest.take_run.Goals as goal

-- the bytes that are left stand in the vector between two places, and there are at least so many
module _ (start end count : ℕ) (items left : List ℕ) (view : drop start (take end items) ≡ left) (fits : end ≤ length items) (within : count ≤ length left)
    (ordered : start ≤ end) where
  ends_within : start + count ≤ end
  ends_within = omega (arith, ap length view, length-drop start (take end items), length-take-le end items fits, within, ordered)

  -- those bytes, where nothing was taken
  at_front : start ≤ 0 → take count items ≡ take count left
  at_front none =
      let zero : start ≡ 0 = omega arith in
      let all : take end items ≡ left = rw zero at view in
      sym (take-take count end items (omega (arith, ends_within))) ∙ ap (take count) all

  -- the bytes behind them, where those alone were kept
  behind_front : (new : List ℕ) → start ≤ 0 → take (end - count) new ≡ drop count (take end items) → drop start (take (end - count) new) ≡ drop count left
  behind_front new none kept =
      let zero : start ≡ 0 = omega arith in
      let all : take end items ≡ left = rw zero at view in
      rw zero (kept ∙ ap (drop count) all)

pub invariant_of-self : goal.invariant_of-self
invariant_of-self c =
    let s = c.self.inside in (
      ends_within s.start s.end c.args.end s.bytes.items c.args.self.now c.self.view_is (omega (arith, c.self.invariant, s.bytes.ok.0)) c.requires.within
          c.self.invariant.0,
      c.self.invariant.1,
    )

pub returns-then-self-gt0-clause-cut : goal.returns-then-self-gt0-clause-cut
returns-then-self-gt0-clause-cut c =
    c.in_ok-append.ensures.ok ∙ ap (λ l. c.args.cut.now ++ l ∷ []) (c.in_ok-from_slice.ensures.items ∙ ap (take c.args.end) c.as_slice.ensures)

pub returns-then-self-gt0-clause-rest : goal.returns-then-self-gt0-clause-rest
returns-then-self-gt0-clause-rest c =
    let s = c.self.inside in sym (drop-drop c.args.end s.start (take s.end s.bytes.items)) ∙ ap (drop c.args.end) c.self.view_is

pub take_front-requires-clause-run : goal.take_front-requires-clause-run
take_front-requires-clause-run c =
    let s = c.self.inside in
    subst IsRun (sym (at_front s.start s.end c.args.end s.bytes.items c.args.self.now c.self.view_is (omega (arith, c.self.invariant, s.bytes.ok.0))
    c.requires.within c.self.invariant.0 c.if-self-gt0.false)) c.requires.run

pub returns-clause-cut : goal.returns-clause-cut
returns-clause-cut c =
    let s = c.self.inside in
    c.in_ok-take_front.ensures.cut
    ∙ ap (λ l. c.args.cut.now ++ l ∷ []) (at_front s.start s.end c.args.end s.bytes.items c.args.self.now c.self.view_is
    (omega (arith, c.self.invariant, s.bytes.ok.0)) c.requires.within c.self.invariant.0 c.if-self-gt0.false)

pub returns-clause-rest : goal.returns-clause-rest
returns-clause-rest c =
    let s = c.self.inside in
    behind_front s.start s.end c.args.end s.bytes.items c.args.self.now c.self.view_is (omega (arith, c.self.invariant, s.bytes.ok.0)) c.requires.within
    c.self.invariant.0 c.take_front.new.bytes.items c.if-self-gt0.false c.in_ok-take_front.ensures.left
