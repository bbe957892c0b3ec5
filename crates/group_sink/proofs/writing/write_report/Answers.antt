use Rattle.std.proofs.Common.{sym}
use Rattle.result_sink.proofs.WroteLemmas.{wrote_behind, wrote_text, wrote_through}
use Rattle.group_sink.proofs.TextsLemmas.{lines_text-is}
use Rattle.group_sink.proofs.writing.write_report.Goals as goal

pub returns-in_err-put_heading : goal.returns-in_err-put_heading
returns-in_err-put_heading g c = record {
  wrote = wrote_text _ _ c.from_residual.result (sym (lines_text-is c.args.shape.now c.args.lines.now))
      (wrote_through _ _ c.put_heading.result c.from_residual.result c.in_err-put_heading.field-0.0 c.in_err-put_heading.was
      c.from_residual.ensures.1 c.put_heading.ensures.wrote);
}

pub returns : goal.returns
returns g c = record {
  wrote = wrote_text _ _ c.put_records.result (sym (lines_text-is c.args.shape.now c.args.lines.now))
      (wrote_behind _ _ c.put_records.result c.in_ok-put_heading.ensures.wrote c.put_records.ensures.wrote);
}
