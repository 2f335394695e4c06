use Rattle.std.proofs.Common.{◌≡◌, ℕ, List, false, inl, sym, ◌∙◌, subst, ⊎_elim, slice_index}
use Rattle.std.proofs.lemmas.Bool.{false≢true}
use Rattle.durable.specs.Cutting.{IsCutShort}
use Rattle.durable.specs.Standing.{IsLaid, IsRefusal, StandsFor}
use Rattle.durable.specs.declared.fault.RecordFault.{RecordFault}
use Rattle.durable.specs.declared.fault.RecordFault.TheVariants.{Device, OutOfMemory, NotARecord, WrongNode, Full, Damaged, Stopped}
use Rattle.server_inspect.specs.Views.{IsRefused, Names}
use Rattle.server_inspect.proofs.view.View.of.Goals as goal

same : (fault : RecordFault) (p n : ℕ) (file : List ℕ) → Names p n file → IsRefusal fault p n file → IsRefusal fault (slice_index file 8) (slice_index file 9) file
same fault p n file names h = subst (λ q. IsRefusal fault q (slice_index file 9) file) (sym names.0) (subst (λ m. IsRefusal fault p m file) (sym names.1) h)

-- an opening by the node and the group that the head names tells of no other's
refused_as : (fault : RecordFault) (p n : ℕ) (file : List ℕ) → Names p n file → IsRefusal fault p n file → IsRefused fault file
refused_as NotARecord p n file names h = h
refused_as WrongNode p n file names h = ⊎_elim (λ other. absurd (other names.0)) (λ other. absurd (other names.1)) h.1
refused_as Device p n file names h = h
refused_as OutOfMemory p n file names h = same OutOfMemory p n file names h
refused_as Damaged p n file names h = inl (same Damaged p n file names h)
refused_as Full p n file names h = absurd h
refused_as Stopped p n file names h = absurd h

pub returns-in-Err-open-clause-refused : goal.returns-in-Err-open-clause-refused
returns-in-Err-open-clause-refused g c = λ d stands.
    refused_as _ _ _ d.seen (c.in-Ok.ensures.named d stands).1 (c.in-Err-open.ensures.refused d (c.in-Ok.ensures.state d stands)).1

-- what is known of one node of one group is known of those that they are
moved : (P : ℕ → ℕ → Type 0) (p n q m : ℕ) → p ≡ q → n ≡ m → P p n → P q m
moved P p n q m is so known = subst (λ k. P q k) so (subst (λ k. P k n) is known)

pub returns-in-Ok-2-clause-viewed : goal.returns-in-Ok-2-clause-viewed
returns-in-Ok-2-clause-viewed g c =
    let opened = c.in-Ok-open.ensures.opened in
    let view = c.of_record.result in
    let record_is = c.in-Ok-open.record in
    let whose = c.in-Ok-open.ensures.whose in
    let node_is : record_is.node ≡ view.node = whose.0 ∙ sym c.of_record.ensures.whose.0 in
    let group_is : record_is.cluster ≡ view.nodes = whose.1 ∙ sym c.of_record.ensures.whose.1 in (
      opened.0,
      c.of_record.ensures.view opened.0 opened.1.kept,
      λ d stands.
          let here = c.in-Ok.ensures.state d stands in
          let reads = (opened.1.ready d here).stored.reads in
          let items = reads.stands.items in
          let whole : record_is.cut_short ≡ false = sym c.is_cut_short.ensures ∙ c.if-is_cut_short.false in (
            moved (λ p n. StandsFor p n d.seen opened.0) record_is.node record_is.cluster view.node view.nodes node_is group_is reads.stands,
            (
              items,
              moved (λ p n. IsLaid p n d.seen items) record_is.node record_is.cluster view.node view.nodes node_is group_is reads.stands.laid,
              λ cut. false≢true (sym whole ∙ (c.in-Ok-open.ensures.cut d here).1 (subst (λ k. IsCutShort k d.seen) (sym reads.ends) cut)),
            ),
            c.of_record.ensures.whose.2 ∙ (c.in-Ok.ensures.named d stands).0,
          ),
    )
