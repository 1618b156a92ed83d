use Rattle.std.proofs.Common.{refl, arith}
use Rattle.base.specs.declared.limits.TheConstants.{LARGEST_MORSEL, MOST_GATHERERS, MOST_PARTITIONS, MOST_WORKERS}
use Rattle.clap.specs.Words.{found_of}
use Rattle.arguments.proofs.FoundValues.{integer_found, integer_unwrapped}
use Rattle.arguments.proofs.Whole.{whole}
use Rattle.arguments.proofs.arguments.settings_of.Goals as goal

pub unwrap-workers-requires : goal.unwrap-workers-requires
unwrap-workers-requires c = integer_found 32 1 MOST_WORKERS _ (found_of c.args.matches.now) (whole _ c.requires).workers (omega arith) _ c.get_one.ensures.value

pub unwrap-morsel-requires : goal.unwrap-morsel-requires
unwrap-morsel-requires c =
    integer_found 64 1 LARGEST_MORSEL _ (found_of c.args.matches.now) (whole _ c.requires).morsel (omega arith) _ c.get_one-2.ensures.value

pub unwrap-parts-requires : goal.unwrap-parts-requires
unwrap-parts-requires c =
    integer_found 32 1 MOST_PARTITIONS _ (found_of c.args.matches.now) (whole _ c.requires).partitions (omega arith) _ c.get_one-3.ensures.value

pub unwrap-gatherers-requires : goal.unwrap-gatherers-requires
unwrap-gatherers-requires c =
    integer_found 32 1 MOST_GATHERERS _ (found_of c.args.matches.now) (whole _ c.requires).gatherers (omega arith) _ c.get_one-4.ensures.value

pub invariant_of-crew : goal.invariant_of-crew
invariant_of-crew c =
    let m = found_of c.args.matches.now in
    let asked = whole _ c.requires in
    let workers = integer_unwrapped 32 1 MOST_WORKERS _ m asked.workers (omega arith) _ _ c.get_one.ensures.value c.unwrap-workers.ensures in
    let gatherers = integer_unwrapped 32 1 MOST_GATHERERS _ m asked.gatherers (omega arith) _ _ c.get_one-4.ensures.value c.unwrap-gatherers.ensures in
    record { workers_in_range = (omega (arith, workers.0), workers.1); gatherers_in_range = (omega (arith, gatherers.0), gatherers.1) }

pub invariant_of-result : goal.invariant_of-result
invariant_of-result c =
    let m = found_of c.args.matches.now in
    let asked = whole _ c.requires in
    let morsel = integer_unwrapped 64 1 LARGEST_MORSEL _ m asked.morsel (omega arith) _ _ c.get_one-2.ensures.value c.unwrap-morsel.ensures in
    let parts = integer_unwrapped 32 1 MOST_PARTITIONS _ m asked.partitions (omega arith) _ _ c.get_one-3.ensures.value c.unwrap-parts.ensures in
    record {
      morsel_in_range = (omega (arith, morsel.0), morsel.1);
      parts_in_range = (omega (arith, parts.0), parts.1);
      limit_in_range = omega arith;
    }

pub returns : goal.returns
returns c =
    let m = found_of c.args.matches.now in
    let asked = whole _ c.requires in record {
      workers = (integer_unwrapped 32 1 MOST_WORKERS _ m asked.workers (omega arith) _ _ c.get_one.ensures.value c.unwrap-workers.ensures).2;
      morsel = (integer_unwrapped 64 1 LARGEST_MORSEL _ m asked.morsel (omega arith) _ _ c.get_one-2.ensures.value c.unwrap-morsel.ensures).2;
      partitions = (integer_unwrapped 32 1 MOST_PARTITIONS _ m asked.partitions (omega arith) _ _ c.get_one-3.ensures.value c.unwrap-parts.ensures).2;
      gatherers = (integer_unwrapped 32 1 MOST_GATHERERS _ m asked.gatherers (omega arith) _ _ c.get_one-4.ensures.value c.unwrap-gatherers.ensures).2;
      limit = refl;
    }
