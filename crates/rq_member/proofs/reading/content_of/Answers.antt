use Rattle.std.proofs.Common.{◌≡◌, ◌⊎◌, ◌∙◌, List, ℕ, Option, Some, sym, ap, subst}
use Rattle.rq_values.specs.declared.error.DecodeError.{DecodeError}
use Rattle.rq_member.specs.declared.reading.EntryError.{EntryError}
use Rattle.rq_member.specs.declared.reading.EntryError.TheVariants as errors
use Rattle.rq_wire.specs.declared.entry.Body.TheVariants as body
use Rattle.rq_member.specs.Reading.{IsNoCommand, IsNoEntry}
use Rattle.rq_member.proofs.Readable.{data_of, data_wrong, err_more}
use Rattle.rq_member.proofs.reading.content_of.Goals as goal

pub returns-in-Data-clause-ok : goal.returns-in-Data-clause-ok
returns-in-Data-clause-ok c = λ command reads is.
    let d = data_of c.in-Data.bytes command reads (sym c.in-Data.is ∙ is) in
    c.command_of.ensures.ok command d.short (c.bytes.ensures ∙ d.is)

pub returns-in-Data-clause-wrong : goal.returns-in-Data-clause-wrong
returns-in-Data-clause-wrong c =
    err_more c.command_of.result (λ (e : EntryError). (e ≡ errors.NoMemory) ⊎ ((error : DecodeError) × (e ≡ errors.Wrong (Some error)) × IsNoCommand c.bytes.result.now error))
    (λ (e : EntryError). (e ≡ errors.NoMemory) ⊎ ((why : Option DecodeError) × (e ≡ errors.Wrong why) × IsNoEntry c.args.body.now why))
    (λ e wrong. data_wrong c.bytes.result.now c.args.body.now e (c.in-Data.is ∙ ap (λ (b : List ℕ). body.Data b) (sym c.bytes.ensures)) wrong) c.command_of.ensures.wrong
