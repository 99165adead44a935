use Rattle.h1_payload.specs.declared.scan.Found.TheVariants as found
use Rattle.h1_payload.specs.Places.{place_of}
use Rattle.h1_payload.specs.Readers.{Reader}
use Rattle.h1_payload.proofs.Takes.{scanned, chunk_room, waits_room, waits_incomplete, end_short}
use Rattle.h1_payload.proofs.chunks.ChunkReader.take.Goals as goal

pub hand_out-requires-clause-room : goal.hand_out-requires-clause-room
hand_out-requires-clause-room c =
    let inside : Reader = record { place = place_of c.self.inside.place; section = c.self.inside.section } in
    let x = scanned c.args.self.now inside c.args.unread.now.items c.as_slice.result.now c.find_next-scan.result
    (found.Chunk c.in-Chunk.at c.in-Chunk.end c.in-Chunk.place) c.self.view_is c.as_slice.ensures c.self.invariant c.find_next-scan.ensures.value
    c.find_next-scan.ensures.within c.in-Chunk.is in
    chunk_room c.args.self.now c.args.unread.now.items c.find_next-scan.result c.in-Chunk.at c.in-Chunk.end c.in-Chunk.place x

pub returns-then-has_ended-clause-taken : goal.returns-then-has_ended-clause-taken
returns-then-has_ended-clause-taken c =
    let inside : Reader = record { place = place_of c.self.inside.place; section = c.self.inside.section } in
    let x = scanned c.args.self.now inside c.args.unread.now.items c.as_slice.result.now c.find_next-scan.result
    (found.Waits c.in-Waits.place) c.self.view_is c.as_slice.ensures c.self.invariant c.find_next-scan.ensures.value
    c.find_next-scan.ensures.within c.in-Waits.is in
    waits_incomplete c.args.self.now c.args.unread.now.items c.find_next-scan.result c.in-Waits.place x c.args.has_ended c.if-has_ended.true

pub wait-requires-clause-room : goal.wait-requires-clause-room
wait-requires-clause-room c =
    let inside : Reader = record { place = place_of c.self.inside.place; section = c.self.inside.section } in
    let x = scanned c.args.self.now inside c.args.unread.now.items c.as_slice.result.now c.find_next-scan.result
    (found.Waits c.in-Waits.place) c.self.view_is c.as_slice.ensures c.self.invariant c.find_next-scan.ensures.value
    c.find_next-scan.ensures.within c.in-Waits.is in
    waits_room c.args.self.now c.args.unread.now.items c.find_next-scan.result c.in-Waits.place x

pub finish-requires-clause-short : goal.finish-requires-clause-short
finish-requires-clause-short c =
    let inside : Reader = record { place = place_of c.self.inside.place; section = c.self.inside.section } in
    let x = scanned c.args.self.now inside c.args.unread.now.items c.as_slice.result.now c.find_next-scan.result
    (found.Ends c.in-Ends.at) c.self.view_is c.as_slice.ensures c.self.invariant c.find_next-scan.ensures.value
    c.find_next-scan.ensures.within c.in-Ends.is in
    end_short c.args.self.now c.args.unread.now.items c.find_next-scan.result c.in-Ends.at x
