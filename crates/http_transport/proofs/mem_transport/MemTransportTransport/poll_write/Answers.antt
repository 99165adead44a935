use Rattle.std.proofs.Common.{◌≡◌, sym, ◌∙◌, subst, true, inl}
use Rattle.std.proofs.lemmas.Bool.{false≢true}
use Rattle.http_transport.specs.MemTransports.{MemWiring, fails_next}
use Rattle.http_transport.proofs.mem_transport.MemTransportTransport.poll_write.Goals as goal

pub returns-in-Some-eq0-clause-listed : goal.returns-in-Some-eq0-clause-listed
returns-in-Some-eq0-clause-listed c = λ is.
    absurd (false≢true (sym c.if-fails.false ∙ c.fails.ensures.listed ∙ subst (λ (w : MemWiring). fails_next w ≡ true) (sym c.self.view_is) is))

pub returns-then-fails-clause-failed : goal.returns-then-fails-clause-failed
returns-then-fails-clause-failed c = λ is.
    inl (subst (λ (w : MemWiring). fails_next w ≡ true) c.self.view_is (sym c.fails.ensures.listed ∙ c.if-fails.true))
