mod NoTag
