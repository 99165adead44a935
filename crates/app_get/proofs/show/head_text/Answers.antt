use Rattle.app_get.proofs.Shown.{shown_text}
use Rattle.app_get.proofs.show.head_text.Goals as goal

pub returns : goal.returns
returns c = record {
  version = c.version_text-version.result.now;
  is_version = c.version_text-version.ensures;
  is_text =
      shown_text _ _ _ _ c.version_text-version.result.now _ _ _ c.new-text.ensures.items c.in_ok-put_status.ensures c.in_ok-put_lines.ensures c.in_ok-extend_from_slice.ensures.ok;
}
