-- The text of a run reads back, as the line of a check does.
use Rattle.celf_reading.proofs.LinesBack.{check_lines_read_back}
use Rattle.run_printer.specs.Runs.{run_object, run_type}
use Rattle.run_printer.specs.Laws.{RunLinesReadBack}

pub run_lines_read_back : RunLinesReadBack
run_lines_read_back sig start e finish w run = check_lines_read_back sig (run_object start e) (run_type start finish) w run.formed run.typed run.object_depth run.type_depth

pub ruleset run_lines = (run_lines_read_back)
