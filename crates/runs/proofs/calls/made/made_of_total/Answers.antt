use Rattle.std.proofs.Common.{◌∙◌, Ok, ap, refl, sym, subst}
use Rattle.time_and_sales.specs.Names.{name_of}
use Rattle.meaning.specs.Meaning.{Meaning}
use Rattle.answers.specs.Answers.{IsAnswerToMessages}
use Rattle.planning.specs.AllBuckets.{text_of_products}
use Rattle.planning.proofs.AnswerOfBuckets.{fault_answers}
use Rattle.planning.proofs.BucketsOfMessages.{lists_in}
use Rattle.planning.proofs.ProductsJoined.{gathered_products, text_listed}
use Rattle.runs.proofs.calls.made.made_of_total.Goals as goal

pub returns-in-Some-clause-answers : goal.returns-in-Some-clause-answers
returns-in-Some-clause-answers c messages of =
    fault_answers c.args.query.now c.args.total c.args.kept messages c.in-Some.fault of (sym c.fault_of.ensures ∙ c.in-Some.is)

pub returns-in-None-clause-answers : goal.returns-in-None-clause-answers
returns-in-None-clause-answers c messages of =
    let what = c.query.inside.what in
    let asked = sym (ap (λ (m : Meaning). m.what) c.query.view_is) in
    subst (λ rows. IsAnswerToMessages messages c.args.query.now (Ok (text_of_products what (name_of rows) c.args.total.products))) (sym c.kept.view_is)
    (text_listed c.args.query.now c.args.total c.args.kept messages what of asked (sym c.fault_of.ensures ∙ c.in-None.is))

pub returns-in-None-clause-ready : goal.returns-in-None-clause-ready
returns-in-None-clause-ready c =
    let (messages, of) = c.requires.gathered in
    let asked = sym (ap (λ (m : Meaning). m.what) c.query.view_is) in (
      lists_in of.parts c.args.query.now messages,
      gathered_products c.args.query.now c.args.total c.args.kept messages c.query.inside.what c.args.total.products of asked refl,
    )
