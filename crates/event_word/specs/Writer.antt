-- A writer of a place that shows nothing, after a write through what it lent.
use Rattle.event_word.specs.declared.word.writer.Writer.{Writer}
use Rattle.event_word.specs.declared.word.writer_arc.WriterArc.{WriterArc}

abbrev pub writer_with : {T S L : Type 0} → Writer T S L → T → Writer T S L
writer_with it x = record { slot = it.slot; marker = it.marker; beside = it.beside; name = it.name; value = x }

abbrev pub writer_arc_with : {L T S : Type 0} → WriterArc L T S → T → WriterArc L T S
writer_arc_with it x = record { slot = it.slot; arc = it.arc; of = it.of; name = it.name; value = x }
