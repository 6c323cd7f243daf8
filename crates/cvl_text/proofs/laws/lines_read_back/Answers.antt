use Rattle.std.proofs.Common.{ap, ◌∙◌}
use Rattle.cvl_text.specs.Lines.{task_in}
use Rattle.cvl_text.specs.TaskTexts.{task_words}
use Rattle.cvl_text.specs.Words.{words_of}
use Rattle.cvl_text.proofs.LineTexts.{task_in-sound, task_in-complete, AreWords-task}
use Rattle.cvl_text.proofs.Spaced.{words_of-spaced}
use Rattle.cvl_text.proofs.laws.lines_read_back.Goals as goal

pub returns : goal.returns
returns c = record {
  exactly = λ edition line t. (task_in-sound edition (words_of line) t, λ h. ap (task_in edition) h.1 ∙ task_in-complete edition t h.0);
  words = λ edition t h. words_of-spaced (task_words t) (AreWords-task edition t h);
  back = λ edition t h. ap (task_in edition) (words_of-spaced (task_words t) (AreWords-task edition t h)) ∙ task_in-complete edition t h;
}
