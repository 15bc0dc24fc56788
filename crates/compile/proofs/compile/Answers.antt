-- Image and line are within their buffers.
use Rattle.programs.proofs.Answering.{image_counted, text_counts}
use Rattle.compile.proofs.compile.Goals as goal

pub slice_bounds-image-end : goal.slice_bounds-image-end
slice_bounds-image-end c = (image_counted c.compile_text-answered.ensures c.in-Some.is).0

pub slice_bounds-saved-end : goal.slice_bounds-saved-end
slice_bounds-saved-end c = (image_counted c.compile_text-answered.ensures c.in-Some.is).1

pub slice_bounds-line-end : goal.slice_bounds-line-end
slice_bounds-line-end c = (text_counts c.compile_text-answered.ensures).1.0

pub slice_bounds-show-end-2 : goal.slice_bounds-show-end-2
slice_bounds-show-end-2 c = (text_counts c.compile_text-answered.ensures).1.1
