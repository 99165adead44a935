use Rattle.std.proofs.Common.{◌≡◌, length, drop}
use Rattle.std.specs.String.{string_bytes}
use Rattle.http_files.specs.Inside.{IsInside}
use Rattle.http_files.specs.Names.{names_of, path_from}
use Rattle.http_files.proofs.paths.Folder.place.Given as goal

abbrev pub invariant-loop-name : goal.invariant-loop-name
invariant-loop-name l =
    record {
      goes_on : path_from l.self (names_of l.text) ≡ path_from (string_bytes l.path) (drop (length l.yielded) (names_of l.text));
      inside : IsInside l.self (string_bytes l.path);
    }
