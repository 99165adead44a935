-- Opcodes and their numbers.
use Rattle.std.proofs.Common.{◌≡◌, ◌≢◌, ℕ, Bool, true, false, cond, nat_eq, None, refl, sym, ap, ◌∙◌}
use Rattle.std.proofs.lemmas.Bool.{eqb-true}
use Rattle.model_h1.specs.FrameText.{Opcode, continuation_opcode, text_opcode, binary_opcode, close_opcode, ping_opcode, pong_opcode, unknown_opcode, opcode_error, opcode_of, opcode_number}
use Rattle.ws_frames.specs.declared.proto.OpCode.{OpCode}
use Rattle.ws_frames.specs.declared.proto.OpCode.TheVariants as codes
use Rattle.ws_frames.specs.Protocol.{code_of, opcode_written}

-- an opcode with a meaning is written as it was read
pub opcode_back : (op : Opcode) → opcode_error op ≡ None → opcode_written (code_of op) ≡ op
opcode_back continuation_opcode e = refl
opcode_back text_opcode e = refl
opcode_back binary_opcode e = refl
opcode_back close_opcode e = refl
opcode_back ping_opcode e = refl
opcode_back pong_opcode e = refl
opcode_back (unknown_opcode n) e = cc

-- every opcode but the bad one is that of its number
pub code_of_number : (op : OpCode) → op ≢ codes.Bad → code_of (opcode_of (opcode_number (opcode_written op))) ≡ op
code_of_number codes.Continue e = refl
code_of_number codes.Text e = refl
code_of_number codes.Binary e = refl
code_of_number codes.Close e = refl
code_of_number codes.Ping e = refl
code_of_number codes.Pong e = refl
code_of_number codes.Bad e = absurd (e refl)

-- the opcode of a number has it, as it is k or not
one_opcode : (n k : ℕ) (x y : Opcode) → opcode_number x ≡ k → opcode_number y ≡ n → opcode_number (cond (nat_eq n k) x y) ≡ n
one_opcode n k x y same other = go (nat_eq n k) refl
  where
    go : (t : Bool) → nat_eq n k ≡ t → opcode_number (cond t x y) ≡ n
    go true e = same ∙ sym (eqb-true n k e)
    go false e = other

all_opcodes : (n : ℕ) → opcode_number (opcode_of n) ≡ n
all_opcodes n =
    one_opcode n 0 _ _ refl (one_opcode n 1 _ _ refl (one_opcode n 2 _ _ refl (one_opcode n 8 _ _ refl
    (one_opcode n 9 _ _ refl (one_opcode n 10 _ _ refl refl)))))

-- a number with a meaning is that of its opcode
pub number_of_opcode : (n : ℕ) → opcode_error (opcode_of n) ≡ None → opcode_number (opcode_written (code_of (opcode_of n))) ≡ n
number_of_opcode n known = ap opcode_number (opcode_back (opcode_of n) known) ∙ all_opcodes n
