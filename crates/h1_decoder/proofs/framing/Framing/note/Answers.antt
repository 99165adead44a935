use Rattle.std.proofs.Common.{◌≡◌, ℕ, List, Option, Some, None, subst}
use Rattle.std.specs.Prelude.{codes}
use Rattle.h1_decoder.specs.declared.framing.Subject.{Subject}
use Rattle.h1_decoder.specs.declared.framing.Subject.TheVariants.{Length, Coding, Connection, Upgrade, Expect}
use Rattle.h1_decoder.specs.Framing.{subject_of}
use Rattle.model_h1.specs.LengthTable.{values_of}
use Rattle.h1_decoder.proofs.FramingLemmas.{IsOn, subject_is, tells-length, tells-coding, tells-connection, tells-upgrade, tells-expect, tells-other}
use Rattle.h1_decoder.proofs.framing.Framing.note.Goals as goal

-- what the name is, by the subject that was found
on_it : (name : List ℕ) (found : Option Subject) → subject_of name ≡ found → IsOn found name
on_it name found is = subst (λ (s : Option Subject). IsOn s name) is (subject_is name)

pub returns-in-Some-Length : goal.returns-in-Some-Length
returns-in-Some-Length c = λ headers tells.
    tells-length c.args.self.now headers (record { name = c.args.name.now; value = c.args.value.now }) tells
    (on_it c.args.name.now (Some Length) (cc)) c.with-self.result
    (c.with-self.ensures (values_of (codes "content-length") headers) tells.length_lines)

pub returns-in-Some-Coding : goal.returns-in-Some-Coding
returns-in-Some-Coding c = λ headers tells.
    tells-coding c.args.self.now headers (record { name = c.args.name.now; value = c.args.value.now }) tells
    (on_it c.args.name.now (Some Coding) (cc)) c.with-self-in-Some-Coding.result
    (c.with-self-in-Some-Coding.ensures (values_of (codes "transfer-encoding") headers) tells.coding_lines)

pub returns-in-Some-Connection : goal.returns-in-Some-Connection
returns-in-Some-Connection c = λ headers tells.
    tells-connection c.args.self.now headers (record { name = c.args.name.now; value = c.args.value.now }) tells
    (on_it c.args.name.now (Some Connection) (cc)) c.connection_type-self.result c.connection_type-self.ensures

pub returns-in-Some-Upgrade : goal.returns-in-Some-Upgrade
returns-in-Some-Upgrade c = λ headers tells.
    tells-upgrade c.args.self.now headers (record { name = c.args.name.now; value = c.args.value.now }) tells
    (on_it c.args.name.now (Some Upgrade) (cc)) _ (cc)

pub returns-in-Some-Expect : goal.returns-in-Some-Expect
returns-in-Some-Expect c = λ headers tells.
    tells-expect c.args.self.now headers (record { name = c.args.name.now; value = c.args.value.now }) tells
    (on_it c.args.name.now (Some Expect) (cc)) _ (cc)

pub returns-in-None : goal.returns-in-None
returns-in-None c = λ headers tells.
    tells-other c.args.self.now headers (record { name = c.args.name.now; value = c.args.value.now }) tells
    (on_it c.args.name.now None (cc))
