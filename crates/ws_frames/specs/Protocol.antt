-- What opcodes, close codes and broken rules stand for.
use Rattle.std.specs.Prelude.{ℕ, ◌==◌, List, codes, if◌then◌else◌}
use Rattle.model_h1.specs.FrameText as model
use Rattle.ws_frames.specs.declared.proto.OpCode.{OpCode}
use Rattle.ws_frames.specs.declared.proto.OpCode.TheVariants.{Continue, Text, Binary, Close, Ping, Pong, Bad}
use Rattle.ws_frames.specs.declared.proto.CloseCode.{CloseCode}
use Rattle.ws_frames.specs.declared.proto.CloseCode.TheVariants as codes

-- an opcode; of those without a meaning the number is not kept
abbrev pub code_of : model.Opcode → OpCode
code_of model.continuation_opcode = Continue
code_of model.text_opcode = Text
code_of model.binary_opcode = Binary
code_of model.close_opcode = Close
code_of model.ping_opcode = Ping
code_of model.pong_opcode = Pong
code_of (model.unknown_opcode _) = Bad

-- what an opcode is when it is written: a bad one is a close
abbrev pub opcode_written : OpCode → model.Opcode
opcode_written Continue = model.continuation_opcode
opcode_written Text = model.text_opcode
opcode_written Binary = model.binary_opcode
opcode_written Close = model.close_opcode
opcode_written Ping = model.ping_opcode
opcode_written Pong = model.pong_opcode
opcode_written Bad = model.close_opcode

-- the name of an opcode, as it is printed
abbrev pub opcode_text : OpCode → List ℕ
opcode_text Continue = codes "CONTINUE"
opcode_text Text = codes "TEXT"
opcode_text Binary = codes "BINARY"
opcode_text Close = codes "CLOSE"
opcode_text Ping = codes "PING"
opcode_text Pong = codes "PONG"
opcode_text Bad = codes "BAD"

-- the number of a close code (section 7.4)
abbrev pub close_number : CloseCode → ℕ
close_number codes.Normal = 1000
close_number codes.Away = 1001
close_number codes.Protocol = 1002
close_number codes.Unsupported = 1003
close_number codes.Abnormal = 1006
close_number codes.Invalid = 1007
close_number codes.Policy = 1008
close_number codes.Size = 1009
close_number codes.Extension = 1010
close_number codes.Error = 1011
close_number codes.Restart = 1012
close_number codes.Again = 1013
close_number codes.Tls = 1015
close_number (codes.Other n) = n

-- the close code with a number: one with a name, if there is one (section 7.4)
abbrev pub close_code : ℕ → CloseCode
close_code n =
    if n == 1000 then codes.Normal else (if n == 1001 then codes.Away else (if n == 1002 then codes.Protocol
    else (if n == 1003 then codes.Unsupported else (if n == 1006 then codes.Abnormal else (if n == 1007 then codes.Invalid
    else (if n == 1008 then codes.Policy else (if n == 1009 then codes.Size else (if n == 1010 then codes.Extension
    else (if n == 1011 then codes.Error else (if n == 1012 then codes.Restart else (if n == 1013 then codes.Again
    else (if n == 1015 then codes.Tls else codes.Other n))))))))))))
