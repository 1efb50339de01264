pub mod AtBlocks
